-- What hearing a piece of the body of a media PUT comes to.
use Rattle.std.proofs.Common.{◌≡◌, ◌≢◌, ◌<◌, ◌≤◌, ℕ, true, false, List, [], ◌∷◌, ◌++◌, length, take, drop, refl, sym, ap, ◌∙◌, arith, length-append, take-append-drop}
use Rattle.std.specs.Prelude.{min}
use Rattle.std.proofs.Math.ListN.{drop_of_length-le}
use Rattle.std.proofs.Math.Seq.{take-append_seam}
use Rattle.std.proofs.lemmas.List.{append-nil, length-take-le}
use Rattle.disk_trait.specs.Device.{Device, HearEnd}
use Rattle.http_wire.specs.Feeds.{Fed, handed_on, heard, left_of, passed_by}
use Rattle.request_hearing.specs.Hearing.{HearsAndSays, HearsBody, IsPiece}
use Rattle.request_hearing.specs.Turning.{one_part}
use Rattle.request_hearing.specs.declared.heard.Body.TheVariants as bodies
use Rattle.request_hearing.proofs.SiteLemmas.{hears_nothing}

-- bytes that were handed on stand at the front
handed_front : (unread out : List ℕ) (count : ℕ) → count ≤ length unread → take count (take count unread ++ drop count out) ≡ take count unread
handed_front unread out count inside =
    let size : length (take count unread) ≡ count = length-take-le count unread inside in
    ap (λ n. take n (take count unread ++ drop count out)) (sym size) ∙ take-append_seam (take count unread) (drop count out)

-- a piece was handed on
takes_piece : (old fed new : Fed) (bytes before out : List ℕ) (count : ℕ) → fed ≡ heard old bytes → 0 < length fed.unread → 0 < left_of fed.stage
    → 0 < length before → count ≡ min (length before) (min (length fed.unread) (left_of fed.stage)) → out ≡ take count fed.unread ++ drop count before
    → new ≡ handed_on fed count → IsPiece old bytes out count new
takes_piece old fed new bytes before out count fed_is unread left room count_is out_is new_is =
    let some : 0 < count = omega (arith, count_is, unread, left, room) in
    let inside : count ≤ length fed.unread = omega (arith, count_is) in
    let few : count ≤ left_of fed.stage = omega (arith, count_is) in
    let size : length (take count fed.unread) ≡ count = length-take-le count fed.unread inside in
    let all : fed.unread ≡ old.unread ++ bytes = ap (λ (f : Fed). f.unread) fed_is in
    let stage : left_of fed.stage ≡ left_of old.stage = ap (λ (f : Fed). left_of f.stage) fed_is in
    record {
      some = some;
      within = omega (arith, size, ap length out_is, length-append (take count fed.unread) (drop count before));
      few = omega (arith, few, stage);
      text_is = sym all ∙ sym (take-append-drop count fed.unread)
          ∙ ap (λ l. l ++ drop count fed.unread) (sym (ap (take count) out_is ∙ handed_front fed.unread before count inside))
          ∙ ap (λ l. take count out ++ l) (sym (ap (λ (f : Fed). f.unread) new_is));
      feed = new_is ∙ ap (λ f. handed_on f count) fed_is;
    }

heard_none : (old : Fed) → old ≡ heard old []
heard_none old = rw (append-nil old.unread) refl

some_long : (bytes : List ℕ) → bytes ≢ [] → 0 < length bytes
some_long [] some = absurd (some refl)
some_long (x ∷ bytes) some = omega arith

-- where something was unread
pub takes_unread : (old new : Fed) (d : Device) (before out : List ℕ) (count : ℕ) → old.unread ≢ [] → 0 < left_of old.stage → 0 < length before
    → count ≡ min (length before) (min (length old.unread) (left_of old.stage)) → out ≡ take count old.unread ++ drop count before
    → new ≡ handed_on old count → HearsBody old new out d d (bodies.Piece count)
takes_unread old new d before out count unread left room count_is out_is new_is = record {
  parts = [];
  bytes = [];
  leaves = hears_nothing d;
  waits = tt;
  comes = takes_piece old old new [] before out count (heard_none old) (some_long old.unread unread) left room count_is out_is new_is;
}

-- all that was heard is of the body, and goes past the feed
passed_whole : (old : Fed) (bytes : List ℕ) (count : ℕ) → old.unread ≡ [] → length bytes ≡ count → passed_by old count ≡ handed_on (heard old bytes) count
passed_whole old bytes count none size =
    let left : drop count (old.unread ++ bytes) ≡ old.unread =
    ap (λ l. drop count (l ++ bytes)) none ∙ drop_of_length-le bytes (omega (arith, size)) ∙ sym none in
    ap (λ l. record old { unread = l; stage = (passed_by old count).stage }) (sym left)

-- where nothing was unread, and bytes were heard at their place
pub hears_in_place : (old new : Fed) (before now : Device) (out : List ℕ) (count : ℕ) → old.unread ≡ [] → 0 < count → count ≤ length out
    → count ≤ left_of old.stage → {end : HearEnd} → HearsAndSays (one_part end) (take count out) false true true false before now
    → new ≡ passed_by old count
    → HearsBody old new out before now (bodies.Piece count)
hears_in_place old new before now out count none some within few {end} leaves new_is = record {
  parts = one_part end;
  bytes = take count out;
  leaves = leaves;
  waits = (record { unread = none; heard = refl; told = refl }, tt);
  comes = record {
    some = some;
    within = within;
    few = few;
    text_is = ap (λ l. l ++ take count out) none
        ∙ sym (ap (λ l. take count out ++ l) (ap (λ (f : Fed). f.unread) new_is ∙ none) ∙ append-nil (take count out));
    feed = new_is ∙ passed_whole old (take count out) count none (length-take-le count out within);
  };
}
