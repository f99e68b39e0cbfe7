-- The search for a head, from where it stood.
use Rattle.std.proofs.Common.{◌≡◌, ℕ, ◌+◌, ◌-◌, ◌<◌, ◌≤◌, List, ◌++◌, append-nil, inl, inr, length-append, length, take, drop, refl, sym, ap, ◌∙◌, arith, length-take, length-drop}
use Rattle.std.proofs.lemmas.List.{drop-take, take-append-le, take-take, take_all, drop-append-le}
use Rattle.std.proofs.Math.Seq.{take-append-add}
use Rattle.std.proofs.lemmas.Bool.{cases_lt}
use Rattle.httparse.specs.Grammar.{RequestHead}
use Rattle.http_wire.specs.Chunks.{coded_front}
use Rattle.http_wire.specs.Heads.{Describes, IsHead, IsHeadBy, IsOneHead, span_text, whole}
use Rattle.http_wire.specs.Lines.{head_end, looked, max_head}
use Rattle.http_wire.specs.Within.Seeing.{FindsHead, IsFound, IsSeeking, IsSeen}
use Rattle.http_wire.specs.declared.head.FoundHead.{FoundHead}
use Rattle.http_wire.specs.declared.head.FeedSpan.{FeedSpan}
use Rattle.http_wire.specs.declared.lines.Looked.{Looked}
use Rattle.http_wire.specs.declared.lines.Looked.TheVariants.{Ended, Still}
use Rattle.http_wire.specs.declared.lines.LinePlace.{LinePlace}
use Rattle.http_wire.specs.declared.lines.LinePlace.TheVariants.{Before}
use Rattle.http_wire.specs.declared.seek.HeadFound.TheVariants as heads
use Rattle.http_wire.specs.declared.seek.Seen.{Seen}
use Rattle.http_wire.specs.declared.seek.Seen.TheVariants as seen
use Rattle.http_wire.proofs.Ends.{looked-append_ended, looked-drop, looked_inside, on_by}
use Rattle.http_wire.proofs.Reaching.{Reached_later}

-- what is found behind the bytes that were looked at is found
pub head_end-behind : (unread : List ℕ) (place : LinePlace) (at : ℕ) → IsSeeking unread place at
    → head_end unread ≡ on_by at (looked place (drop at (take max_head unread)))
head_end-behind unread place at seeking =
    let size = length-take max_head unread in
    let inside : at ≤ length (take max_head unread) = omega (arith, size, seeking.inside, seeking.few) in
    looked-drop (take max_head unread) at Before place inside (rw (take-take at max_head unread seeking.few) seeking.leads)

-- the head isn't whole
pub seek_more : (unread : List ℕ) (place : LinePlace) → head_end unread ≡ Still place → length (take max_head unread) < max_head
    → FindsHead unread (heads.More place (length (take max_head unread)))
seek_more unread place still short =
    let size = length-take max_head unread in
    let all : take max_head unread ≡ unread = take_all max_head unread (omega (arith, size)) in
    let same : take (length unread) unread ≡ unread = take_all (length unread) unread (omega arith) in
    let found : looked Before unread ≡ Still place = ap (looked Before) (sym all) ∙ still in
    let few : length unread < max_head = omega (arith, ap length all) in
    rw (still, all) (few, record { leads = rw same found; inside = omega arith; few = omega arith })

-- it never is
pub seek_refused : (unread : List ℕ) (place : LinePlace) → head_end unread ≡ Still place → max_head ≤ length (take max_head unread)
    → FindsHead unread heads.Refused
seek_refused unread place still long = rw still (refl, omega (arith, length-take max_head unread))

-- a place within the head's bytes
pub text_at-take : (bytes : List ℕ) (n : ℕ) (span : FeedSpan) → span.start + span.length ≤ n → span_text (take n bytes) span ≡ span_text bytes span
text_at-take bytes n span inside =
    let sums : span.start + (n - span.start) ≡ n = omega arith in
    let few : span.length ≤ n - span.start = omega arith in
    rw (← sums, drop-take span.start (n - span.start) bytes) (take-take span.length (n - span.start) (drop span.start bytes) few)

-- the head's bytes are one head
pub front_found : (unread : List ℕ) (end : ℕ) (found : FoundHead) (head : RequestHead) → head_end unread ≡ Ended end → end ≤ length unread
    → found.length ≡ end → IsOneHead (take end unread) head → Describes (take end unread) head found → IsFound unread found
front_found unread end found head ends inside size one tells = record {
  head = head;
  stands = rw ends (size, one);
  tells = record {
    method = tells.method;
    target = sym (text_at-take unread end found.target (omega (arith, tells.inside, size))) ∙ tells.target;
    inside = tells.inside;
    media = tells.media;
    framing = tells.framing;
    interim = tells.interim;
    closes = tells.closes;
  };
  inside = omega (arith, size, inside);
  small = omega (arith, size, looked_inside Before (take max_head unread) end ends, length-take max_head unread);
}

-- they aren't
pub front_refused : (unread : List ℕ) (end : ℕ) → head_end unread ≡ Ended end
    → ((head : RequestHead) → ¬ (IsOneHead (take end unread) head)) → FindsHead unread heads.Refused
front_refused unread end ends none = rw ends (refl, none)

-- ---- what is known stays under more bytes

-- a front of a list with more behind it
pub take-append : (n : ℕ) (xs ys : List ℕ) → take n (xs ++ ys) ≡ take n xs ++ take (n - length xs) ys
take-append n xs ys =
    elim (cases_lt n (length xs)) [
      | inl below ↦
          let few : n ≤ length xs = omega arith in
          let none : n - length xs ≡ 0 = omega arith in
          rw (take-append-le n xs ys few, none) (sym (append-nil (take n xs)))
      | inr past ↦
          let sums : length xs + (n - length xs) ≡ n = omega arith in
          rw (take_all n xs past) (ap (λ k. take k (xs ++ ys)) (sym sums) ∙ take-append-add xs ys (n - length xs))
    ]

-- a head that ended stays so
pub head_end_later : (bytes later : List ℕ) (n : ℕ) → head_end bytes ≡ Ended n → head_end (bytes ++ later) ≡ Ended n
head_end_later bytes later n ends =
    rw (take-append max_head bytes later)
    (looked-append_ended Before (take max_head bytes) (take (max_head - length bytes) later) n ends)

head_later_by : (bytes later : List ℕ) (head : RequestHead) (n : ℕ) (end : Looked) → n ≤ length bytes → head_end bytes ≡ end
    → IsHeadBy end bytes (whole head n) → IsHead (bytes ++ later) (whole head n)
head_later_by bytes later head n (Still place) inside is stands = absurd stands
head_later_by bytes later head n (Ended end) inside is (same, one) =
    let few : end ≤ length bytes = omega arith in
    rw (head_end_later bytes later end is, take-append-le end bytes later few) (same, one)

-- and so does a whole head
pub IsHead_later : (bytes later : List ℕ) (head : RequestHead) (n : ℕ) → n ≤ length bytes → IsHead bytes (whole head n)
    → IsHead (bytes ++ later) (whole head n)
IsHead_later bytes later head n inside stands = head_later_by bytes later head n (head_end bytes) inside refl stands

-- bytes at a place stay
pub text_at-append : (bytes later : List ℕ) (span : FeedSpan) → span.start + span.length ≤ length bytes
    → span_text (bytes ++ later) span ≡ span_text bytes span
text_at-append bytes later span inside =
    let start : span.start ≤ length bytes = omega arith in
    let long : span.length ≤ length (drop span.start bytes) = omega (arith, length-drop span.start bytes) in
    rw (drop-append-le span.start bytes later start) (take-append-le span.length (drop span.start bytes) later long)

-- what was found stays
pub IsFound_later : (unread later : List ℕ) (found : FoundHead) → IsFound unread found → IsFound (unread ++ later) found
IsFound_later unread later found known = record {
  head = known.head;
  stands = IsHead_later unread later known.head found.length known.inside known.stands;
  tells = record {
    method = known.tells.method;
    target = text_at-append unread later found.target (omega (arith, known.tells.inside, known.inside)) ∙ known.tells.target;
    inside = known.tells.inside;
    media = known.tells.media;
    framing = known.tells.framing;
    interim = known.tells.interim;
    closes = known.tells.closes;
  };
  inside = omega (arith, known.inside, length-append unread later);
  small = known.small;
}

-- and what is known
pub IsSeen_later : (unread later body : List ℕ) (seen : Seen) → IsSeen unread body seen → IsSeen (unread ++ later) body seen
IsSeen_later unread later body (seen.Seeking place at) known = record {
  leads = rw (take-append-le at unread later known.inside) known.leads;
  inside = omega (arith, known.inside, length-append unread later);
  few = known.few;
}
IsSeen_later unread later body (seen.Found found progress) read = record {
  known = IsFound_later unread later found read.known;
  reached =
      rw (drop-append-le found.length unread later read.known.inside, take-append 8388609 (drop found.length unread) later)
      (Reached_later (coded_front (drop found.length unread)) (take (8388609 - length (drop found.length unread)) later) body progress read.reached);
}
