-- What a list of bytes spells is one thing, and is heard request by request.
use Rattle.std.proofs.Common.{◌≡◌, ℕ, zero, suc, Bool, true, false, List, ◌++◌, length, take, drop, refl, sym, ap, ◌∙◌, arith, rules, nat_lt, subst}
use Rattle.std.proofs.lemmas.Bool.Decides.{nat_tests}
use Rattle.std.proofs.lemmas.List.{drop-append-le}
use Rattle.httparse.specs.Grammar.{RequestHead}
use Rattle.http_wire.specs.Hearing.{HeardRequests, IsHeard, HeardFrom, RequestAndRest, MediaGoesOn, and_then, ends_with, IsOneHearing, StaysDecided, StaysRefused, HearsOn, HearsOnMedia, EndsLast, EndsLastMedia}
use Rattle.http_wire.specs.Heads.{Front, IsHeadBy, more, refused, whole}
use Rattle.http_wire.specs.Lines.{head_end}
use Rattle.http_wire.specs.Requests.{Got, IsNext, after_read, given, opened}
use Rattle.http_wire.specs.declared.framing.WireFault.{WireFault}
use Rattle.http_wire.specs.declared.lines.Looked.{Looked}
use Rattle.http_wire.specs.declared.lines.Looked.TheVariants as looks
use Rattle.http_wire.proofs.Interims.{same_by, more_by, refused_by}
use Rattle.http_wire.proofs.Staying.{next_stays}

-- ---- one thing stands at the front

more_or_refused : (end : Looked) (bytes : List ℕ) (fault : WireFault) → IsHeadBy end bytes more → IsHeadBy end bytes (refused fault) → ⊥
more_or_refused (looks.Still place) bytes fault short long = omega (arith, short, long.1)
more_or_refused (looks.Ended end) bytes fault short long = short

same_refusal : (end : Looked) (bytes : List ℕ) (fault other : WireFault) → IsHeadBy end bytes (refused fault)
    → IsHeadBy end bytes (refused other) → fault ≡ other
same_refusal (looks.Still place) bytes fault other one two = one.0 ∙ sym two.0
same_refusal (looks.Ended end) bytes fault other one two = one.0 ∙ sym two.0

front_by : (end : Looked) (bytes : List ℕ) (one two : Front RequestHead) → IsHeadBy end bytes one → IsHeadBy end bytes two → one ≡ two
front_by end bytes more more a b = refl
front_by end bytes more (refused fault) a b = absurd (more_or_refused end bytes fault a b)
front_by end bytes more (whole head n) a b = absurd (more_by end bytes head n a b)
front_by end bytes (refused fault) more a b = absurd (more_or_refused end bytes fault b a)
front_by end bytes (refused fault) (refused other) a b = ap (λ f. refused f) (same_refusal end bytes fault other a b)
front_by end bytes (refused fault) (whole head n) a b = absurd (refused_by end bytes fault head n a b)
front_by end bytes (whole head n) more a b = absurd (more_by end bytes head n b a)
front_by end bytes (whole head n) (refused fault) a b = absurd (refused_by end bytes fault head n b a)
front_by end bytes (whole head n) (whole other m) a b =
    let same = same_by end bytes head other n m a b in rw (same.0, same.1) refl

pub next_unique : (bytes : List ℕ) (one two : Front Got) → IsNext bytes one → IsNext bytes two → one ≡ two
next_unique bytes one two a b =
    let same = front_by (head_end bytes) bytes a.read b.read a.head b.head in
    a.is ∙ ap (after_read bytes) same ∙ sym b.is

-- ---- one hearing

-- what is heard behind a request is one thing
abbrev IsOne : (List ℕ → HeardRequests → Type 0) → Type 0
IsOne later = (bytes : List ℕ) (heard other : HeardRequests) → later bytes heard → later bytes other → heard ≡ other

goes_one : (ends : Bool) (later : List ℕ → HeardRequests → Type 0) (head : RequestHead) (body bytes : List ℕ) (heard other : HeardRequests) → IsOne later
    → RequestAndRest ends later head body bytes heard → RequestAndRest ends later head body bytes other → heard ≡ other
goes_one true later head body bytes heard other one a b = a ∙ sym b
goes_one false later head body bytes heard other one a b =
    a.2 ∙ ap (and_then head body) (one bytes a.0 b.0 a.1 b.1) ∙ sym b.2

media_one : (short ends : Bool) (later : List ℕ → HeardRequests → Type 0) (head : RequestHead) (size : ℕ) (all bytes : List ℕ) (heard other : HeardRequests)
    → IsOne later
    → MediaGoesOn short ends later head size all bytes heard → MediaGoesOn short ends later head size all bytes other → heard ≡ other
media_one true ends later head size all bytes heard other one a b = a ∙ sym b
media_one false ends later head size all bytes heard other one a b =
    goes_one ends later head (take size bytes) (drop size bytes) heard other one a b

from_one : (left : ℕ) (later : List ℕ → HeardRequests → Type 0) (bytes : List ℕ) (next : Front Got) (heard other : HeardRequests) → IsOne later
    → HeardFrom left later bytes next heard → HeardFrom left later bytes next other → heard ≡ other
from_one left later bytes more heard other one a b = a ∙ sym b
from_one left later bytes (refused fault) heard other one a b = a ∙ sym b
from_one left later bytes (whole (given head body) n) heard other one a b =
    goes_one (ends_with left head) later head body (drop n bytes) heard other one a b
from_one left later bytes (whole (opened head size) n) heard other one a b =
    media_one (nat_lt (length (drop n bytes)) size) (ends_with left head) later head size bytes (drop n bytes) heard other one a b

pub one_hearing : IsOneHearing
unfolding IsHeard
one_hearing zero bytes heard other a b = a ∙ sym b
one_hearing (suc left) bytes heard other a b =
    let same = next_unique bytes a.0 b.0 a.1 b.1 in
    from_one left (IsHeard left) bytes b.0 heard other (one_hearing left)
    (subst (λ next. HeardFrom left (IsHeard left) bytes next heard) same a.2) b.2

-- ---- request by request

pub stays_decided : StaysDecided
stays_decided bytes later got n next inside = next_stays bytes later (whole got n) next tt

pub stays_refused : StaysRefused
unfolding IsHeard
stays_refused left bytes later fault next = (refused fault, next_stays bytes later (refused fault) next tt, refl)

pub hears_on : HearsOn
unfolding IsHeard
hears_on left bytes later head body n tail next inside on heard = (
  whole (given head body) n,
  next_stays bytes later (whole (given head body) n) next tt,
  rw (drop-append-le n bytes later inside, on) (tail, heard, refl),
)

pub ends_last : EndsLast
unfolding IsHeard
ends_last left bytes later head body n next inside last = (
  whole (given head body) n,
  next_stays bytes later (whole (given head body) n) next tt,
  rw (drop-append-le n bytes later inside, last) refl,
)

pub hears_on_media : HearsOnMedia
unfolding IsHeard
hears_on_media left bytes later head size n tail next inside on all heard =
    let long : nat_lt (length (drop n bytes ++ later)) size ≡ false = search (arith, rules, nat_tests) in (
      whole (opened head size) n,
      next_stays bytes later (whole (opened head size) n) next tt,
      rw (drop-append-le n bytes later inside, long, on) (tail, heard, refl),
    )

pub ends_last_media : EndsLastMedia
unfolding IsHeard
ends_last_media left bytes later head size n next inside last all =
    let long : nat_lt (length (drop n bytes ++ later)) size ≡ false = search (arith, rules, nat_tests) in (
      whole (opened head size) n,
      next_stays bytes later (whole (opened head size) n) next tt,
      rw (drop-append-le n bytes later inside, long, last) refl,
    )
