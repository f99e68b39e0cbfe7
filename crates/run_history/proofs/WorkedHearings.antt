-- The worked hearings: when nothing is owed to the small machine's connections, and when something is.
use Rattle.std.proofs.Common.{◌≡◌, ℕ, false, List, [], ◌∷◌, ◌++◌, length, get_or, drop, Option, Some, None, refl, sym, ap, arith}
use Rattle.std.proofs.lemmas.List.{length-append}
use Rattle.disk_trait.specs.Device.{Connection, Gave}
use Rattle.run_history.specs.Steps.{Answered, Made, Stage, Step, interim_pieces, step_text}
use Rattle.run_history.specs.Sessions.{IsLastHearing, IsUnfinished, OwesNothing, bytes_of_pieces, texts_of}
use Rattle.run_history.specs.Worked.{Add, Demand, IsCutAddition, Show, adder, asks, demand_reply, hears, starved_session}
use Rattle.run_history.specs.Parts.{pieces_of}

two_bytes : (d : Demand) → length (demand_reply d 0).bytes ≡ 2
two_bytes Show = refl
two_bytes (Add n) = refl

-- no request nor refusal stands in front of fewer bytes than two that don't begin with a 9
unfinished_below : (n : ℕ) (text : List ℕ) → length text ≡ 0 → IsUnfinished adder n text
unfinished_below n text none = record {
  request = λ front rest d is spelled. absurd (omega (arith, none, ap length is, length-append front rest, ap length spelled, two_bytes d));
  refusal = λ front rest r is refused. absurd (omega (arith, none, ap length is, length-append front rest, ap length refused.0));
}

-- nor does either in front of the head of an addition
unfinished_head : (n : ℕ) → IsUnfinished adder n (101 ∷ [])
unfinished_head n = record {
  request = λ front rest d is spelled. absurd (omega (arith, ap length is, length-append front rest, ap length spelled, two_bytes d));
  refusal = λ front rest r is refused. not_nine front rest is refused.0;
}
  where
    not_nine : (front rest : List ℕ) → 101 ∷ [] ≡ front ++ rest → front ≡ 9 ∷ [] → ⊥
    not_nine [] rest is nine = absurd (omega (arith, ap length nine))
    not_nine (x ∷ front) rest is nine =
        absurd (omega (arith, ap (λ l. get_or l 0 0) is, ap (λ l. get_or l 0 0) nine))

-- the first hearing of a connection owes nothing
pub owes_first : (at : Stage ℕ) (heard : List ℕ) {steps : List (Step Demand)} {count : ℕ} → OwesNothing adder at heard steps (hears 0 0 (Gave count))
owes_first at heard {steps} {count} = record {
  front = [];
  rear = steps;
  part = [];
  cutting = record { interim = None; takes_moment = false };
  steps_are = refl;
  stay = tt;
  prefix = (heard, refl);
  unfinished = unfinished_below 0 [] refl;
  cuts = refl;
  heard_is = refl;
  told_is = refl;
  said = refl;
}

-- nor does one behind the head of an addition whose interim was told
pub owes_head : (at : Stage ℕ) (heard : List ℕ) {steps : List (Step Demand)} {count : ℕ}
    → OwesNothing adder at (101 ∷ heard) steps (hears 1 1 (Gave count))
owes_head at heard {steps} {count} = record {
  front = [];
  rear = steps;
  part = 101 ∷ [];
  cutting = record { interim = Some (1 ∷ []); takes_moment = false };
  steps_are = refl;
  stay = tt;
  prefix = (heard, refl);
  unfinished = unfinished_head 0;
  cuts = (refl, refl);
  heard_is = refl;
  told_is = refl;
  said = refl;
}

-- a hearing that gave bytes isn't the last for a failure
pub first_stays : (c : Connection) {heard told count : ℕ} → IsLastHearing c (hears heard told (Gave count))
first_stays c = record { heard = λ failed. cc; told = λ failed. cc }

-- ---- hearings that owe something

first_is : {A : Type 0} (x : A) (xs : List A) (y : A) (ys rear : List A) → (y ∷ ys) ++ rear ≡ x ∷ xs → y ≡ x
first_is x xs y ys rear is = ap (λ l. get_or l 0 x) is

abbrev one_heard : Step Demand
one_heard = Answered (asks (Add 3) 11) Made

abbrev shown : Step Demand
shown = Answered (asks Show 10) Made

-- the interim of the head that was heard hadn't been told
pub not_late : (front rear : List (Step Demand)) (part : List ℕ) (interim : Option (List ℕ)) (at : Stage ℕ) → front ++ rear ≡ starved_session.steps
    → 1 ≡ length (texts_of front ++ part) → 0 ≡ length (bytes_of_pieces (pieces_of adder at front ++ interim_pieces interim)) → IsCutAddition part interim → ⊥
not_late [] rear part None at is heard told cuts = absurd (omega (arith, heard, ap length cuts))
not_late [] rear part (Some i) at is heard told cuts =
    absurd (omega (arith, told, length-append i [], ap length cuts.1))
not_late (x ∷ front) rear part interim at is heard told cuts =
    let same = first_is one_heard _ x front rear is in
    absurd (omega (
      arith,
      heard,
      length-append (texts_of (x ∷ front)) part,
      length-append (step_text x) (texts_of front),
      ap (λ s. length (step_text s)) same,
    ))

-- two bytes that are a request are whole
whole_two : (part rest : List ℕ) (d : Demand) (a b : ℕ) (later : List ℕ) {n : ℕ} → a ∷ b ∷ later ≡ part ++ rest → 2 ≡ length part
    → (demand_reply d 0).bytes ≡ a ∷ b ∷ [] → IsUnfinished adder n part → ⊥
whole_two [] rest d a b later is two spelled u = absurd (omega (arith, two))
whole_two (x ∷ []) rest d a b later is two spelled u = absurd (omega (arith, two))
whole_two (x ∷ y ∷ z ∷ part) rest d a b later is two spelled u = absurd (omega (arith, two))
whole_two (x ∷ y ∷ []) rest d a b later is two spelled u =
    let first : x ≡ a = sym (ap (λ l. get_or l 0 0) is) in
    let second : y ≡ b = sym (ap (λ l. get_or l 1 0) is) in
    u.request (x ∷ y ∷ []) [] d refl (rw (first, second) (sym spelled))

-- the first request was whole, and its answer hadn't been told
pub not_batch : (front rear : List (Step Demand)) (part : List ℕ) (interim : Option (List ℕ)) (rest : List ℕ) (at : Stage ℕ) {n : ℕ}
    → front ++ rear ≡ starved_session.steps → 2 ≡ length (texts_of front ++ part)
    → 1 ≡ length (bytes_of_pieces (pieces_of adder at front ++ interim_pieces interim))
    → 101 ∷ 3 ∷ 100 ∷ 0 ∷ 7 ∷ [] ≡ (texts_of front ++ part) ++ rest → IsUnfinished adder n part → ⊥
not_batch [] rear part interim rest at is heard told are u = whole_two part rest (Add 3) 101 3 (100 ∷ 0 ∷ 7 ∷ []) are heard refl u
not_batch (x ∷ front) rear part interim rest at is heard told are u =
    let same = first_is one_heard _ x front rear is in
    let pieces : 1 ≡ length (bytes_of_pieces (pieces_of adder at (one_heard ∷ front) ++ interim_pieces interim)) = rw same at told in
    absurd (omega (arith, pieces))

-- a whole request was unanswered, whichever of two it is
pub not_dropped : (front rear : List (Step Demand)) (part rest : List ℕ) {n : ℕ} → front ++ rear ≡ shown ∷ []
    → 4 ≡ length (texts_of front ++ part) → 100 ∷ 0 ∷ 100 ∷ 0 ∷ [] ≡ (texts_of front ++ part) ++ rest → IsUnfinished adder n part → ⊥
not_dropped [] rear [] rest is heard are u = absurd (omega (arith, heard))
not_dropped [] rear (x ∷ []) rest is heard are u = absurd (omega (arith, heard))
not_dropped [] rear (x ∷ y ∷ part) rest is heard are u =
    let first : x ≡ 100 = sym (ap (λ l. get_or l 0 0) are) in
    let second : y ≡ 0 = sym (ap (λ l. get_or l 1 0) are) in
    u.request (x ∷ y ∷ []) part Show refl (rw (first, second) refl)
not_dropped (x ∷ []) rear part rest is heard are u =
    let same = first_is shown _ x [] rear is in
    let there : 100 ∷ 0 ∷ 100 ∷ 0 ∷ [] ≡ (100 ∷ 0 ∷ part) ++ rest = rw same at are in
    let size : 4 ≡ length (100 ∷ 0 ∷ part) = rw same at heard in
    whole_two part rest Show 100 0 [] (ap (λ l. drop 2 l) there) (omega (arith, size)) refl u
not_dropped (x ∷ y ∷ front) rear part rest is heard are u = absurd (omega (arith, ap length is))
