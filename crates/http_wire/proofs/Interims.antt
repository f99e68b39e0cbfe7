-- One head stands at the front of bytes, so that one interim response is due or none.
use Rattle.std.proofs.Common.{◌≡◌, ℕ, false, List, [], sym, ap, ◌∙◌, IsTrue, take}
use Rattle.std.proofs.lemmas.Bool.{false≢true}
use Rattle.httparse.specs.Grammar.{RequestHead}
use Rattle.httparse.proofs.GrammarLemmas.{request_unique}
use Rattle.http_wire.specs.Feeds.{IsInterimDue}
use Rattle.http_wire.specs.Framing.{wants_interim}
use Rattle.http_wire.specs.Heads.{IsHead, IsHeadBy, more, refused, whole}
use Rattle.http_wire.specs.Lines.{head_end}
use Rattle.http_wire.specs.Within.Seeing.{IsFound, IsSeen, KnowsHead}
use Rattle.http_wire.specs.declared.framing.WireFault.{WireFault}
use Rattle.http_wire.specs.declared.head.FoundHead.{FoundHead}
use Rattle.http_wire.specs.declared.lines.Looked.{Looked}
use Rattle.http_wire.specs.declared.lines.Looked.TheVariants.{Ended, Still}
use Rattle.http_wire.specs.declared.seek.Seen.{Seen}
use Rattle.http_wire.specs.declared.seek.Seen.TheVariants as seen

-- what is found is what stands there
pub same_by : (end : Looked) (bytes : List ℕ) (head other : RequestHead) (n m : ℕ) → IsHeadBy end bytes (whole head n)
    → IsHeadBy end bytes (whole other m)
    → (head ≡ other) × (n ≡ m)
same_by (Still place) bytes head other n m one two = absurd one
same_by (Ended end) bytes head other n m (size, one) (other_size, two) =
    ((request_unique (take end bytes) head other [] [] one.reads two.reads).0, size ∙ sym other_size)

-- at most one head stands at the front
pub same_head : (bytes : List ℕ) (head other : RequestHead) (n m : ℕ) → IsHead bytes (whole head n) → IsHead bytes (whole other m)
    → (head ≡ other) × (n ≡ m)
same_head bytes head other n m one two = same_by (head_end bytes) bytes head other n m one two

pub more_by : (end : Looked) (bytes : List ℕ) (head : RequestHead) (n : ℕ) → IsHeadBy end bytes more → IsHeadBy end bytes (whole head n) → ⊥
more_by (Still place) bytes head n one two = two
more_by (Ended end) bytes head n one two = one

-- none where nothing is whole
pub more_no_head : (bytes : List ℕ) (head : RequestHead) (n : ℕ) → IsHead bytes more → IsHead bytes (whole head n) → ⊥
more_no_head bytes head n one two = more_by (head_end bytes) bytes head n one two

pub refused_by : (end : Looked) (bytes : List ℕ) (fault : WireFault) (head : RequestHead) (n : ℕ) → IsHeadBy end bytes (refused fault)
    → IsHeadBy end bytes (whole head n) → ⊥
refused_by (Still place) bytes fault head n one two = two
refused_by (Ended end) bytes fault head n one two = one.1 head two.1

-- and none where it is refused
pub refused_no_head : (bytes : List ℕ) (fault : WireFault) (head : RequestHead) (n : ℕ) → IsHead bytes (refused fault)
    → IsHead bytes (whole head n) → ⊥
refused_no_head bytes fault head n one two = refused_by (head_end bytes) bytes fault head n one two

-- ---- interim responses

pub interim_found : (unread : List ℕ) (found : FoundHead) → IsFound unread found
    → (IsTrue found.wants_interim → IsInterimDue unread) × (IsInterimDue unread → IsTrue found.wants_interim)
interim_found unread found known = (
  λ due. (known.head, found.length, known.stands, sym known.tells.interim ∙ due),
  λ (head, n, stands, due).
      known.tells.interim ∙ ap wants_interim (same_head unread known.head head found.length n known.stands stands).0 ∙ due,
)

pub interim_more : (unread : List ℕ) → IsHead unread more → (IsTrue false → IsInterimDue unread) × (IsInterimDue unread → IsTrue false)
interim_more unread none =
    (λ no. absurd (false≢true no), λ (head, n, stands, due). absurd (more_no_head unread head n none stands))

pub interim_refused : (unread : List ℕ) (fault : WireFault) → IsHead unread (refused fault)
    → (IsTrue false → IsInterimDue unread) × (IsInterimDue unread → IsTrue false)
interim_refused unread fault none =
    (λ no. absurd (false≢true no), λ (head, n, stands, due). absurd (refused_no_head unread fault head n none stands))

-- what is known of a head
pub knows_head : (unread body : List ℕ) (known : Seen) → IsSeen unread body known → KnowsHead unread known
knows_head unread body (seen.Seeking place at) fact = fact
knows_head unread body (seen.Found found progress) fact = fact.known
