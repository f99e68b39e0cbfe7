-- What the small machine's connections owe, whatever their steps.
use Rattle.std.proofs.Common.{◌≡◌, ◌≢◌, ◌≤◌, ◌+◌, ◌∙◌, ℕ, true, false, List, [], ◌∷◌, ◌++◌, length, get_or, drop, Option, Some, None, refl, sym, ap, subst, inl, inr, arith}
use Rattle.std.proofs.lemmas.Bool.{false≢true}
use Rattle.std.proofs.lemmas.List.{length-append}
use Rattle.std.specs.List.{AllByRecursion}
use Rattle.run_history.specs.Machine.{BeforeAnswer, Failure, InAnswer, InTurn}
use Rattle.run_history.specs.Steps.{Answered, Cut, IsStep, IsTaken, Interim, Made, Piece, Refused, Skipped, Stage, Starved, Step, Stopped, TakenRequest, effect, interim_pieces, is_last, piece_bytes, stage_after, step_text, told_pieces}
use Rattle.run_history.specs.Sessions.{AreSteps, EndsBy, Hearing, IsServed, IsTold, IsToldPart, IsUnfinished, LinkEnd, Saying, Session, Whole, bytes_of_pieces, last_step, steps_effect, stop_of, texts_of}
use Rattle.run_history.specs.Worked.{Add, Demand, IsCutAddition, Show, adder, asks, demand_interim, demand_reply, late_connection, batch_connection, unheard_connection, dropping_connection, open_connection, silent_connection}
use Rattle.run_history.specs.Parts.{pieces_of}

pub two_bytes : (d : Demand) → length (demand_reply d 0).bytes ≡ 2
two_bytes Show = refl
two_bytes (Add n) = refl

bytes_append : (a b : List Piece) → length (bytes_of_pieces (a ++ b)) ≡ length (bytes_of_pieces a) + length (bytes_of_pieces b)
bytes_append [] b = omega arith
bytes_append (p ∷ a) b =
    omega (
      arith,
      length-append (piece_bytes p) (bytes_of_pieces (a ++ b)),
      length-append (piece_bytes p) (bytes_of_pieces a),
      bytes_append a b,
    )

-- an answer tells two bytes at least
answer_size : (d : Demand) (s made : ℕ) → 2 ≤ length (bytes_of_pieces (told_pieces (demand_interim d) (demand_reply d s).bytes made))
answer_size Show s made = omega arith
answer_size (Add n) s made = omega arith

-- a step that leaves its connection open is an answer: it took two bytes and told two at least
record IsOpenStep (at : Stage ℕ) (step : Step Demand) : Type 0 where
  pub text : length (step_text step) ≡ 2
  pub told : 2 ≤ length (bytes_of_pieces (effect adder at step).pieces)

open_step : (n : ℕ) (at : Stage ℕ) (step : Step Demand) (later : List (Step Demand)) → AreSteps adder n at (step ∷ later) → is_last adder step ≡ false
    → IsOpenStep at step
open_step n at (Answered ask Made) later are stay =
    record { text = ap length are.0.0 ∙ two_bytes ask.request; told = answer_size ask.request at.state _ }
open_step n at (Answered ask Skipped) later are stay =
    record { text = ap length are.0.0 ∙ two_bytes ask.request; told = answer_size ask.request at.state _ }
open_step n at (Refused text refusal) later are stay = absurd (false≢true (sym stay))
open_step n at (Starved ask) later are stay = absurd (false≢true (sym stay))
open_step n at (Stopped ask failure) later are stay = absurd (false≢true (sym stay))
open_step n at (Cut text interim moment) later are stay = absurd (false≢true (sym stay))

abbrev AreOpen : List (Step Demand) → Type 0
AreOpen = AllByRecursion (λ step. is_last adder step ≡ false)

-- the first of open steps, of what was heard and of what was told
module _ (n : ℕ) (at : Stage ℕ) (x : Step Demand) (front rear : List (Step Demand)) (part : List ℕ) (interim : Option (List ℕ))
    (are : AreSteps adder n at ((x ∷ front) ++ rear))
    (stay : AreOpen (x ∷ front)) where
  here : IsOpenStep at x
  here = open_step n at x (front ++ rear) are stay.0

  heard_two : 2 ≤ length (texts_of (x ∷ front) ++ part)
  heard_two =
      let size = here.text in
      omega (arith, size, length-append (texts_of (x ∷ front)) part, length-append (step_text x) (texts_of front))

  told_two : 2 ≤ length (bytes_of_pieces (pieces_of adder at (x ∷ front) ++ interim_pieces interim))
  told_two =
      let size = here.told in
      omega (
        arith,
        size,
        bytes_append (pieces_of adder at (x ∷ front)) (interim_pieces interim),
        bytes_append (effect adder at x).pieces (pieces_of adder (stage_after adder at x) front),
      )

-- ---- what a connection owes when it is waited for

-- two bytes that are a request are whole
whole_two : (part rest : List ℕ) (d : Demand) (a b : ℕ) (later : List ℕ) (n : ℕ) → a ∷ b ∷ later ≡ part ++ rest → 2 ≡ length part
    → (demand_reply d 0).bytes ≡ a ∷ b ∷ [] → IsUnfinished adder n part → ⊥
whole_two [] rest d a b later n is two spelled u = absurd (omega (arith, two))
whole_two (x ∷ []) rest d a b later n is two spelled u = absurd (omega (arith, two))
whole_two (x ∷ y ∷ z ∷ part) rest d a b later n is two spelled u = absurd (omega (arith, two))
whole_two (x ∷ y ∷ []) rest d a b later n is two spelled u =
    let first : x ≡ a = sym (ap (λ l. get_or l 0 0) is) in
    let second : y ≡ b = sym (ap (λ l. get_or l 1 0) is) in
    u.request (x ∷ y ∷ []) [] d refl (rw (first, second) (sym spelled))

module _ (at : Stage ℕ) (rear : List (Step Demand)) (part : List ℕ) (interim : Option (List ℕ)) where
  -- an interim, where a byte was heard and none told
  owes_interim : (front : List (Step Demand)) → AreSteps adder 0 at (front ++ rear) → AreOpen front → 1 ≡ length (texts_of front ++ part)
      → 0 ≡ length (bytes_of_pieces (pieces_of adder at front ++ interim_pieces interim)) → IsCutAddition part interim → ⊥
  owes_interim (x ∷ front) are stay heard told cuts = omega (arith, heard, heard_two 0 at x front rear part interim are stay)
  owes_interim [] are stay heard told cuts = by_interim interim told cuts
    where
      by_interim : (i : Option (List ℕ)) → 0 ≡ length (bytes_of_pieces (pieces_of adder at [] ++ interim_pieces i)) → IsCutAddition part i → ⊥
      by_interim None told cuts = absurd (omega (arith, heard, ap length cuts))
      by_interim (Some i) told cuts = absurd (omega (arith, told, length-append i [], ap length cuts.1))

  -- an answer, where a whole request was heard and less than two bytes told
  owes_answer : (front : List (Step Demand)) (d : Demand) (a b : ℕ) (later rest : List ℕ) (told n : ℕ) → AreSteps adder 0 at (front ++ rear)
      → AreOpen front → 2 ≡ length (texts_of front ++ part)
      → told ≡ length (bytes_of_pieces (pieces_of adder at front ++ interim_pieces interim)) → told ≤ 1
      → a ∷ b ∷ later ≡ (texts_of front ++ part) ++ rest → (demand_reply d 0).bytes ≡ a ∷ b ∷ [] → IsUnfinished adder n part → ⊥
  owes_answer [] d a b later rest told n are stay heard told_is few is spelled u = whole_two part rest d a b later n is heard spelled u
  owes_answer (x ∷ front) d a b later rest told n are stay heard told_is few is spelled u =
      omega (arith, told_is, few, told_two 0 at x front rear part interim are stay)

  -- the first of two requests, or the second
  second_of : (text rest : List ℕ) (n : ℕ) → length text ≡ 2 → 100 ∷ 0 ∷ 100 ∷ 0 ∷ [] ≡ ((text ++ []) ++ part) ++ rest
      → 4 ≡ length ((text ++ []) ++ part) → IsUnfinished adder n part → ⊥
  second_of [] rest n two is four u = absurd (omega (arith, two))
  second_of (a ∷ []) rest n two is four u = absurd (omega (arith, two))
  second_of (a ∷ b ∷ []) rest n two is four u =
      whole_two part rest Show 100 0 [] n (ap (λ l. drop 2 l) is) (omega (arith, four)) refl u
  second_of (a ∷ b ∷ c ∷ text) rest n two is four u = absurd (omega (arith, two))

  owes_one_of_two : (front : List (Step Demand)) (rest : List ℕ) (n : ℕ) → AreSteps adder 0 at (front ++ rear) → AreOpen front
      → 4 ≡ length (texts_of front ++ part)
      → 2 ≡ length (bytes_of_pieces (pieces_of adder at front ++ interim_pieces interim))
      → 100 ∷ 0 ∷ 100 ∷ 0 ∷ [] ≡ (texts_of front ++ part) ++ rest → IsUnfinished adder n part → ⊥
  owes_one_of_two [] rest n are stay four told is u = first_of part is four u
    where
      first_of : (p : List ℕ) → 100 ∷ 0 ∷ 100 ∷ 0 ∷ [] ≡ p ++ rest → 4 ≡ length p → IsUnfinished adder n p → ⊥
      first_of [] is four u = absurd (omega (arith, four))
      first_of (x ∷ []) is four u = absurd (omega (arith, four))
      first_of (x ∷ y ∷ p) is four u =
          let first : x ≡ 100 = sym (ap (λ l. get_or l 0 0) is) in
          let second : y ≡ 0 = sym (ap (λ l. get_or l 1 0) is) in
          u.request (x ∷ y ∷ []) p Show refl (rw (first, second) refl)
  owes_one_of_two (x ∷ []) rest n are stay four told is u =
      second_of (step_text x) rest n (here 0 at x [] rear part interim are stay).text is four u
  owes_one_of_two (x ∷ y ∷ front) rest n are stay four told is u =
      let one = (here 0 at x (y ∷ front) rear part interim are stay).told in
      let after = stage_after adder at x in
      let more = told_two 1 after y front rear part interim are.2 stay.1 in
      omega (
        arith,
        told,
        one,
        more,
        bytes_append (pieces_of adder at (x ∷ y ∷ front)) (interim_pieces interim),
        bytes_append (effect adder at x).pieces (pieces_of adder after (y ∷ front)),
        bytes_append (pieces_of adder after (y ∷ front)) (interim_pieces interim),
      )

-- ---- the connections

module _ (at : Stage ℕ) (session : Session Demand) where
  pub late_unserved : ¬ (IsServed adder at late_connection session)
  late_unserved served =
      let o = served.owes.1.0 in
      owes_interim at o.rear o.part o.cutting.interim o.front (subst (AreSteps adder 0 at) o.steps_are served.steps) o.stay o.heard_is o.told_is o.cuts

  pub batch_unserved : ¬ (IsServed adder at batch_connection session)
  batch_unserved served =
      let o = served.owes.1.0 in
      owes_answer at o.rear o.part o.cutting.interim o.front (Add 3) 101 3 (100 ∷ 0 ∷ 7 ∷ []) o.prefix.0 1 _
      (subst (AreSteps adder 0 at) o.steps_are served.steps) o.stay o.heard_is o.told_is (omega arith) o.prefix.1 refl o.unfinished

  pub unanswered_unserved : ¬ (IsServed adder at unheard_connection session)
  unanswered_unserved served =
      let o = served.owes.1.0 in
      owes_answer at o.rear o.part o.cutting.interim o.front (Add 1) 101 1 [] o.prefix.0 0 _
      (subst (AreSteps adder 0 at) o.steps_are served.steps) o.stay o.heard_is o.told_is (omega arith) o.prefix.1 refl o.unfinished

  pub dropped_unserved : ¬ (IsServed adder at dropping_connection session)
  dropped_unserved served =
      let o = served.owes.1.0 in
      owes_one_of_two at o.rear o.part o.cutting.interim o.front o.prefix.0 _ (subst (AreSteps adder 0 at) o.steps_are served.steps) o.stay o.heard_is
      o.told_is o.prefix.1 o.unfinished

-- nothing was told of pieces the first of which has a byte and isn't the last
front_size : List Piece → ℕ
front_size [] = 0
front_size (p ∷ pieces) = length (piece_bytes p)

none_told : (a b : Piece) (more front : List Piece) (last : Piece) (part : List ℕ) → 1 ≤ length (piece_bytes a)
    → a ∷ b ∷ more ≡ front ++ last ∷ [] → [] ≡ bytes_of_pieces front ++ part → ⊥
unfolding front_size
none_told a b more [] last part some is none = absurd (omega (arith, ap length is))
none_told a b more (p ∷ front) last part some is none =
    omega (
      arith,
      some,
      ap front_size is,
      ap length none,
      length-append (piece_bytes p ++ bytes_of_pieces front) part,
      length-append (piece_bytes p) (bytes_of_pieces front),
    )

told_in_part : (failure : Option Failure) (told : List ℕ) (pieces : List Piece) → IsTold failure Saying told pieces
    → (least : ℕ) × IsToldPart least told pieces
told_in_part None told pieces is = (0, is)
told_in_part (Some (BeforeAnswer writing)) told pieces is = (0, is)
told_in_part (Some InAnswer) told pieces is = (1, is)
told_in_part (Some (InTurn writing)) told pieces is = (0, is)

silent_by : (failure : Option Failure) (link : LinkEnd) (pieces : List Piece) (b : Piece) (more : List Piece) → link ≡ Saying
    → IsTold failure link [] pieces → pieces ≡ Interim (1 ∷ []) ∷ b ∷ more → ⊥
silent_by failure Saying pieces b more saying told is =
    let part = (told_in_part failure [] pieces told).1 in
    none_told (Interim (1 ∷ [])) b more part.front part.last part.part (omega arith) (sym is ∙ part.pieces_are) part.told_is
silent_by failure Whole pieces b more saying told is = absurd cc
silent_by failure Hearing pieces b more saying told is = absurd cc

pub silent_unserved : (at : Stage ℕ) (later : List (Step Demand)) (link : LinkEnd)
    → ¬ (IsServed adder at silent_connection (record { steps = Answered (asks (Add 1) 10) Made ∷ later; link = link }))
silent_unserved at later link served =
    silent_by (stop_of (last_step (Answered (asks (Add 1) 10) Made ∷ later))) link
    (steps_effect adder at (Answered (asks (Add 1) 10) Made ∷ later)).pieces _ _ (served.unsaid.0 refl) served.told refl

-- ---- a connection that was not heard out

spelled_size : (text : List ℕ) (d : Demand) → text ≡ (demand_reply d 0).bytes → 1 ≤ length text
spelled_size text d is = omega (arith, ap length is, two_bytes d)

taken_size : (n : ℕ) (ask : TakenRequest Demand) → IsTaken adder n ask → 1 ≤ length ask.text
taken_size n ask (inl spelled) = spelled_size ask.text ask.request spelled
taken_size n ask (inr head) = absurd head

some_size : (text : List ℕ) → text ≢ [] → 1 ≤ length text
some_size [] some = absurd (some refl)
some_size (b ∷ text) some = omega arith

step_size : (n : ℕ) (s : ℕ) (step : Step Demand) → IsStep adder n s step → 1 ≤ length (step_text step)
step_size n s (Answered ask turned) is = spelled_size ask.text ask.request is.0
step_size n s (Refused text refusal) is = omega (arith, ap length is.0)
step_size n s (Starved ask) is = taken_size n ask is
step_size n s (Stopped ask (BeforeAnswer true)) is = spelled_size ask.text ask.request is.1.0
step_size n s (Stopped ask (BeforeAnswer false)) is = taken_size n ask is.1
step_size n s (Stopped ask InAnswer) is = spelled_size ask.text ask.request is.1
step_size n s (Stopped ask (InTurn true)) is = spelled_size ask.text ask.request is.1.0
step_size n s (Stopped ask (InTurn false)) is = spelled_size ask.text ask.request is.1.0
step_size n s (Cut text interim moment) is = some_size text is.0

not_ended : (at : Stage ℕ) (k : ℕ) (steps : List (Step Demand)) (link : LinkEnd) (rest : List ℕ) → AreSteps adder 0 at steps → [] ≡ texts_of steps ++ rest
    → EndsBy adder k (last_step steps) link false rest → link ≡ Whole → ⊥
not_ended at k [] link rest are none ends whole = false≢true (ends.to_the_end whole)
not_ended at k (x ∷ later) link rest are none ends whole =
    omega (
      arith,
      ap length none,
      step_size 0 at.state x are.0,
      length-append (texts_of (x ∷ later)) rest,
      length-append (step_text x) (texts_of later),
    )

by_link : (link : LinkEnd) → (link ≡ Hearing → false ≡ true) → (link ≡ Saying → false ≡ true) → link ≡ Whole
by_link Whole hearing saying = refl
by_link Hearing hearing saying = absurd (false≢true (hearing refl))
by_link Saying hearing saying = absurd (false≢true (saying refl))

pub open_unserved : (at : Stage ℕ) (session : Session Demand) → ¬ (IsServed adder at open_connection session)
open_unserved at session served =
    not_ended at _ session.steps session.link served.rest served.steps served.heard served.ends (by_link session.link served.unheard.1 served.unsaid.1)
