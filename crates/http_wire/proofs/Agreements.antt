-- What a feed gave and keeps agrees with all bytes, call by call.
use Rattle.std.proofs.Common.{◌≡◌, ℕ, suc, ◌+◌, ◌-◌, ◌<◌, ◌≤◌, ◌||◌, Bool, true, false, List, [], ◌∷◌, ◌++◌, length, take, drop, refl, sym, ap, ◌∙◌, arith, Option, Some, None, nat_eq, append-nil, append_assoc, length-append, length-drop, drop-drop}
use Rattle.std.proofs.lemmas.Bool.{true≢false}
use Rattle.std.proofs.lemmas.Bool.Decides.{nat_tests}
use Rattle.std.proofs.lemmas.List.{drop-append-le, length-take-le}
use Rattle.std.proofs.Math.Seq.{take-append-add}
use Rattle.std.proofs.lemmas.List.{take-append-drop}
use Rattle.httparse.specs.Grammar.{RequestHead}
use Rattle.http_wire.specs.Agreeing.{Agrees, AgreesAtStart, AgreesBy, AgreesOnBody, AgreesOnHead, AgreesOnPush, AgreesOnRefusal, AgreesOnWait, AgreesOnWhole, HearsBehind, Given, MayTurn, MediaAgrees, OpenAgrees, before, settled, settled_by, with_bytes}
use Rattle.http_wire.specs.Feeds.{Fed, is_last_request, left_of}
use Rattle.http_wire.specs.Framing.{ends_connection}
use Rattle.http_wire.specs.Heads.{whole}
use Rattle.http_wire.specs.Hearing.{Asked, HeardRequests, IsHeard, and_then, ends_with, stopped_by}
use Rattle.http_wire.specs.Requests.{IsNext, given, opened}
use Rattle.http_wire.specs.declared.framing.WireFault.{WireFault}
use Rattle.http_wire.specs.declared.stage.FeedStage.{FeedStage}
use Rattle.http_wire.specs.declared.stage.FeedStage.TheVariants.{Failed, Media, Open}
use Rattle.http_wire.proofs.Hearings.{ends_last, ends_last_media, hears_on, hears_on_media, stays_refused}

before-push : (done : List Asked) (asked : Asked) (tail : HeardRequests)
    → before (done ++ asked ∷ []) tail ≡ before done (and_then asked.head asked.body tail)
before-push [] asked tail = refl
before-push (first ∷ done) asked tail = ap (and_then first.head first.body) (before-push done asked tail)

-- a media PUT whose body was handed on is a request like others
settle_media : (all : List ℕ) (done : List Asked) (media : Option Asked) (ended : Bool) (requests : ℕ) (unread : List ℕ)
    → MediaAgrees 0 all done media ended requests unread → OpenAgrees all (settled_by done media) ended requests unread
settle_media all done None ended requests unread agrees = absurd agrees
settle_media all done (Some last) ended requests unread agrees = λ later tail follows.
    rw before-push (rw append-nil at (agrees later tail (omega arith) follows))

settle : (stage : FeedStage) (all : List ℕ) (so_far : Given) (ended : Bool) (requests : ℕ) (unread : List ℕ) → left_of stage ≡ 0
    → ((fault : WireFault) → stage ≡ Failed fault → ⊥) → AgreesBy stage all so_far ended requests unread
    → OpenAgrees all (settled so_far) ended requests unread
settle Open all so_far ended requests unread none other agrees = agrees
settle (Media left) all so_far ended requests unread none other agrees =
    settle_media all so_far.done so_far.media ended requests unread (rw none at agrees)
settle (Failed fault) all so_far ended requests unread none other agrees = absurd (other fault refl)

settled_feed : (all : List ℕ) (so_far : Given) (fed : Fed) → Agrees all so_far fed → MayTurn fed
    → OpenAgrees all (settled so_far) false fed.requests fed.unread
settled_feed all so_far fed agrees may =
    rw may.goes_on at (settle fed.stage all so_far fed.ended fed.requests fed.unread may.handed_on may.unrefused agrees.spells)

-- ---- numbers

one_less : (requests : ℕ) → requests < 1000000 → 1000000 - requests ≡ suc (1000000 - (requests + 1))
one_less requests few = omega arith

last_is : (requests : ℕ) → requests < 1000000 → nat_eq (requests + 1) 1000000 ≡ nat_eq (1000000 - (requests + 1)) 0
last_is requests few = grind (arith, nat_tests)

ends_same : (closed : Bool) (requests : ℕ) → requests < 1000000 → is_last_request closed (requests + 1) ≡ (closed || nat_eq (1000000 - (requests + 1)) 0)
ends_same closed requests few = ap (λ b. closed || b) (last_is requests few)

or_false : (a b : Bool) → (a || b) ≡ false → b ≡ false
or_false true b e = absurd (true≢false e)
or_false false b e = e

count_on : (closed ended : Bool) (requests : ℕ) → requests < 1000000 → ended ≡ is_last_request closed (requests + 1) → ended ≡ false → requests + 1 < 1000000
count_on closed ended requests few is goes =
    let other : nat_eq (requests + 1) 1000000 ≡ false = or_false closed (nat_eq (requests + 1) 1000000) (sym is ∙ goes) in
    grind (arith, nat_tests)

-- ---- the calls

pub agrees_at_start : AgreesAtStart
agrees_at_start = record {
  count = λ on. omega arith;
  spells = λ later tail follows. follows;
}

pushed_by : (stage : FeedStage) (all bytes : List ℕ) (so_far : Given) (media : Option Asked) (ended : Bool) (requests : ℕ) (unread : List ℕ)
    → so_far.media ≡ media
    → AgreesBy stage all so_far ended requests unread → AgreesBy stage (all ++ bytes) so_far ended requests (unread ++ bytes)
pushed_by Open all bytes so_far media ended requests unread is agrees = λ later tail follows.
    rw append_assoc (agrees (bytes ++ later) tail (rw append_assoc at follows))
pushed_by (Failed fault) all bytes so_far media ended requests unread is agrees = λ later.
    rw (append_assoc all bytes later, append_assoc unread bytes later) (agrees (bytes ++ later))
pushed_by (Media left) all bytes so_far None ended requests unread is agrees = absurd (rw is at agrees)
pushed_by (Media left) all bytes so_far (Some last) ended requests unread is agrees =
    rw is (λ later tail long follows.
    rw (append_assoc all bytes later, append_assoc unread bytes later)
    ((rw is at agrees) (bytes ++ later) tail (rw append_assoc at long) (rw append_assoc at follows)))

pub agrees_on_push : AgreesOnPush
agrees_on_push all so_far fed bytes agrees = record {
  count = agrees.count;
  spells = pushed_by fed.stage all bytes so_far so_far.media fed.ended fed.requests fed.unread refl agrees.spells;
}

pub agrees_on_wait : AgreesOnWait
agrees_on_wait all so_far old new agrees may waits =
    let leaves = waits.leaves in
    record {
      count = rw (leaves.ended_is, leaves.requests_are) agrees.count;
      spells = rw (leaves.stage_is, leaves.ended_is, leaves.requests_are, leaves.unread, may.goes_on) (settled_feed all so_far old agrees may);
    }

pub agrees_on_refusal : AgreesOnRefusal
agrees_on_refusal all so_far old new fault agrees may refuses =
    let leaves = refuses.leaves in
    let few : old.requests < 1000000 = agrees.count may.goes_on in
    record {
      count = rw (leaves.ended_is, leaves.requests_are) agrees.count;
      spells = rw (leaves.stage_is, leaves.unread) (λ later.
          settled_feed all so_far old agrees may later (stopped_by fault (old.unread ++ later))
          (rw (one_less old.requests few) (stays_refused (1000000 - (old.requests + 1)) old.unread later fault refuses.next)));
    }

-- what follows a request makes what follows from it on
on_by_end : (ends : Bool) (requests n : ℕ) (unread later : List ℕ) (head : RequestHead) (body : List ℕ) (tail : HeardRequests) → requests < 1000000
    → ends ≡ ends_with (1000000 - (requests + 1)) head → IsNext unread (whole (given head body) n) → n ≤ length unread
    → HearsBehind ends (requests + 1) (drop n unread ++ later) tail → IsHeard (1000000 - requests) (unread ++ later) (and_then head body tail)
on_by_end true requests n unread later head body tail few is next inside follows =
    rw (one_less requests few, follows) (ends_last (1000000 - (requests + 1)) unread later head body n next inside (sym is))
on_by_end false requests n unread later head body tail few is next inside follows =
    rw (one_less requests few) (hears_on (1000000 - (requests + 1)) unread later head body n tail next inside (sym is) follows)

pub agrees_on_whole : AgreesOnWhole
agrees_on_whole all so_far old new shown agrees may gives =
    let leaves = gives.leaves in
    let few : old.requests < 1000000 = agrees.count may.goes_on in
    let ends = gives.tells.ends in
    record {
      count = rw (leaves.ended_is, leaves.requests_are) (count_on (ends_connection gives.head) shown.ends old.requests few ends);
      spells = rw (leaves.stage_is, leaves.ended_is, leaves.requests_are, leaves.unread) (λ later tail follows.
          rw before-push (settled_feed all so_far old agrees may later (and_then gives.head gives.body tail)
          (on_by_end shown.ends old.requests gives.n old.unread later gives.head gives.body tail few (ends ∙ ends_same (ends_connection gives.head)
          old.requests few)
          gives.next gives.inside follows)));
    }

media_by_end : (ends : Bool) (requests n size : ℕ) (unread later : List ℕ) (head : RequestHead) (tail : HeardRequests) → requests < 1000000
    → ends ≡ ends_with (1000000 - (requests + 1)) head → IsNext unread (whole (opened head size) n) → n ≤ length unread
    → size ≤ length (drop n unread ++ later) → HearsBehind ends (requests + 1) (drop size (drop n unread ++ later)) tail
    → IsHeard (1000000 - requests) (unread ++ later) (and_then head (take size (drop n unread ++ later)) tail)
media_by_end true requests n size unread later head tail few is next inside long follows =
    rw (one_less requests few, follows) (ends_last_media (1000000 - (requests + 1)) unread later head size n next inside (sym is) long)
media_by_end false requests n size unread later head tail few is next inside long follows =
    rw (one_less requests few) (hears_on_media (1000000 - (requests + 1)) unread later head size n tail next inside (sym is) long follows)

pub agrees_on_head : AgreesOnHead
agrees_on_head all so_far old new shown agrees may gives =
    let leaves = gives.leaves in
    let few : old.requests < 1000000 = agrees.count may.goes_on in
    let ends = gives.tells.ends in
    record {
      count = rw (leaves.ended_is, leaves.requests_are) (count_on (ends_connection gives.head) shown.ends old.requests few ends);
      spells = rw (leaves.stage_is, leaves.ended_is, leaves.requests_are, leaves.unread) (λ later tail long follows.
          settled_feed all so_far old agrees may later (and_then gives.head (take shown.length (drop gives.n old.unread ++ later)) tail)
          (media_by_end shown.ends old.requests gives.n shown.length old.unread later gives.head tail few (ends ∙ ends_same (ends_connection gives.head)
          old.requests few)
          gives.next gives.inside long follows));
    }

-- the front of a list, in two parts
take_two : (left n : ℕ) (unread later : List ℕ) → n ≤ left → n ≤ length unread
    → take left (unread ++ later) ≡ take n unread ++ take (left - n) (drop n unread ++ later)
take_two left n unread later few inside =
    let sums : length (take n unread) + (left - n) ≡ left = omega (arith, length-take-le n unread inside) in
    let parts : unread ++ later ≡ take n unread ++ (drop n unread ++ later) =
    ap (λ xs. xs ++ later) (sym (take-append-drop n unread)) ∙ append_assoc (take n unread) (drop n unread) later in
    ap (λ k. take k (unread ++ later)) (sym sums) ∙ ap (take (length (take n unread) + (left - n))) parts
    ∙ take-append-add (take n unread) (drop n unread ++ later) (left - n)

drop_two : (left n : ℕ) (unread later : List ℕ) → n ≤ left → n ≤ length unread
    → drop left (unread ++ later) ≡ drop (left - n) (drop n unread ++ later)
drop_two left n unread later few inside =
    let sums : n + (left - n) ≡ left = omega arith in
    ap (λ k. drop k (unread ++ later)) (sym sums) ∙ sym (drop-drop (left - n) n (unread ++ later)) ∙ ap (drop (left - n)) (drop-append-le n unread
    later inside)

handed_by : (left n : ℕ) (all : List ℕ) (done : List Asked) (media : Option Asked) (ended : Bool) (requests : ℕ) (unread : List ℕ) → n ≤ left
    → n ≤ length unread
    → MediaAgrees left all done media ended requests unread
    → MediaAgrees (left - n) all done (with_bytes (take n unread) media) ended requests (drop n unread)
handed_by left n all done None ended requests unread few inside agrees = agrees
handed_by left n all done (Some last) ended requests unread few inside agrees = λ later tail long follows.
    let size : left ≤ length (unread ++ later) = omega (
      arith,
      length-append unread later,
      length-append (drop n unread) later,
      length-drop n
          unread,
    ) in
    rw (append_assoc last.body (take n unread) (take (left - n) (drop n unread ++ later)), ← take_two left n unread later few inside)
    (agrees later tail size (rw (drop_two left n unread later few inside) follows))

pub agrees_on_body : AgreesOnBody
agrees_on_body all so_far fed left n agrees is few inside =
    let media : MediaAgrees left all so_far.done so_far.media fed.ended fed.requests fed.unread = rw is at agrees.spells in
    record {
      count = agrees.count;
      spells = rw is (handed_by left n all so_far.done so_far.media fed.ended fed.requests fed.unread few inside media);
    }
