-- Steps and connections with one more at their end: how they end, and what they count.
use Rattle.std.proofs.Common.{◌≡◌, ◌≢◌, ◌+◌, ◌-◌, ◌||◌, ℕ, suc, Bool, true, false, List, [], ◌∷◌, ◌++◌, length, Option, None, Some, refl, sym, ap, ◌∙◌, subst, arith}
use Rattle.std.specs.Prelude.{◌↔◌, IsTrue, is_some}
use Rattle.std.proofs.lemmas.Bool.{false≢true}
use Rattle.std.proofs.lemmas.List.{length-append}
use Rattle.std.specs.List.{AllByRecursion}
use Rattle.disk_trait.specs.Device.{Connection}
use Rattle.run_history.specs.Machine.{BeforeAnswer, InAnswer, InTurn, Machine}
use Rattle.run_history.specs.Steps.{Answered, Cut, IsStep, Made, Piece, Refused, Skipped, Stage, Starved, Step, Stopped, effect, is_last, stage_after}
use Rattle.run_history.specs.Sessions.{AreServed, AreSteps, EndsBy, Hearing, IsHeardOut, IsServed, LinkEnd, Saying, Session, Whole, after_steps, answers_in, failure_of, is_writing, last_step, run_effect, steps_effect, stop_of}
use Rattle.run_history.specs.Traces.{counts_of_run, start_of}
use Rattle.run_history.specs.Parts.{after_sessions, all_answers, all_changes, all_skips, has_hearing_failed, has_saying_failed, pieces_of, run_stops, run_stops_writing, scripts_of, skips_by, skips_in, stops, stops_writing}

-- each of these steps leaves its connection open
abbrev pub AreOpen : {State Request : Type 0} → Machine State Request → List (Step Request) → Type 0
AreOpen m = AllByRecursion (λ step. is_last m step ≡ false)

-- ---- steps with one more

pub open-push : {State Request : Type 0} (m : Machine State Request) (steps : List (Step Request)) (step : Step Request) → AreOpen m steps
    → is_last m step ≡ false → AreOpen m (steps ++ step ∷ [])
open-push m [] step all is = (is, tt)
open-push m (x ∷ steps) step all is = (all.0, open-push m steps step all.1 is)

pub steps-push : {State Request : Type 0} (m : Machine State Request) (n k : ℕ) (at : Stage State) (steps : List (Step Request)) (step : Step Request)
    → AreSteps m n at steps → AreOpen m steps → k ≡ n + length steps → IsStep m k (after_steps m at steps).state step
    → AreSteps m n at (steps ++ step ∷ [])
steps-push m n k at [] step are stay count is =
    (subst (λ j. IsStep m j at.state step) (omega (arith, count)) is, λ e. refl, tt)
steps-push m n k at (x ∷ steps) step are stay count is = (
  are.0,
  λ e. absurd (false≢true (sym stay.0 ∙ e)),
  steps-push m (suc n) k (stage_after m at x) steps step are.2 stay.1 (omega (arith, count)) is,
)

-- ---- the last step

-- of steps with one more it is that one
pub last-push : {Request : Type 0} (steps : List (Step Request)) (step : Step Request) → last_step (steps ++ step ∷ []) ≡ Some step
last-push [] step = refl
last-push (x ∷ []) step = refl
last-push (x ∷ y ∷ steps) step = last-push (y ∷ steps) step

-- steps that leave their connection open
one_open : {State Request : Type 0} (m : Machine State Request) (n : ℕ) (step : Step Request) (link : LinkEnd) (ended : Bool) (rest : List ℕ)
    → is_last m step ≡ false → IsHeardOut link ended rest → EndsBy m n (Some step) link ended rest
one_open m n (Answered a t) link ended rest stay out = λ e. out
one_open m n (Refused a t) link ended rest stay out = tt
one_open m n (Starved a) link ended rest stay out = tt
one_open m n (Stopped a t) link ended rest stay out = tt
one_open m n (Cut a i t) link ended rest stay out = absurd (false≢true (sym stay))

pub ends-open : {State Request : Type 0} (m : Machine State Request) (n : ℕ) (steps : List (Step Request)) (link : LinkEnd) (ended : Bool) (rest : List ℕ)
    → AreOpen m steps → IsHeardOut link ended rest → EndsBy m n (last_step steps) link ended rest
ends-open m n [] link ended rest stay out = out
ends-open m n (x ∷ []) link ended rest stay out = one_open m n x link ended rest stay.0 out
ends-open m n (x ∷ y ∷ steps) link ended rest stay out = ends-open m n (y ∷ steps) link ended rest stay.1 out

-- how steps end with one more
pub ends-push : {State Request : Type 0} (m : Machine State Request) (n : ℕ) (steps : List (Step Request)) (step : Step Request) (link : LinkEnd)
    (ended : Bool) (rest : List ℕ) → n ≡ length steps → EndsBy m n (Some step) link ended rest
    → EndsBy m (length (steps ++ step ∷ []) - 1) (last_step (steps ++ step ∷ [])) link ended rest
ends-push m n steps step link ended rest count is =
    let behind : n ≡ length (steps ++ step ∷ []) - 1 = omega (arith, count, length-append steps (step ∷ [])) in
    subst (λ last. EndsBy m (length (steps ++ step ∷ []) - 1) last link ended rest) (sym (last-push steps step))
    (subst (λ k. EndsBy m k (Some step) link ended rest) behind is)

-- the marks of a connection are those of the call of its link that failed
pub heard-marks : (link : LinkEnd) (unheard : Bool) → unheard ≡ has_hearing_failed link → IsTrue unheard ↔ (link ≡ Hearing)
heard-marks Whole unheard is = (λ failed. absurd (false≢true (sym is ∙ failed)), λ e. absurd cc)
heard-marks Hearing unheard is = (λ failed. refl, λ e. is)
heard-marks Saying unheard is = (λ failed. absurd (false≢true (sym is ∙ failed)), λ e. absurd cc)

pub said-marks : (link : LinkEnd) (unsaid : Bool) → unsaid ≡ has_saying_failed link → IsTrue unsaid ↔ (link ≡ Saying)
said-marks Whole unsaid is = (λ failed. absurd (false≢true (sym is ∙ failed)), λ e. absurd cc)
said-marks Hearing unsaid is = (λ failed. absurd (false≢true (sym is ∙ failed)), λ e. absurd cc)
said-marks Saying unsaid is = (λ failed. refl, λ e. is)

-- ---- whether the disk failed

pub is-none : {A : Type 0} (x : Option A) → is_some x ≡ false → x ≡ None
is-none None e = refl
is-none (Some x) e = absurd (false≢true (sym e))

-- how steps ended that left their connection open: not with a fault of the disk
pub record AreGoing {Request : Type 0} (steps : List (Step Request)) : Type 0 where
  pub failure : stop_of (last_step steps) ≡ None
  pub stops : stops steps ≡ false
  pub writing : stops_writing steps ≡ false

open_step : {State Request : Type 0} (m : Machine State Request) (step : Step Request) → is_last m step ≡ false → stop_of (Some step) ≡ None
open_step m (Answered a t) stay = refl
open_step m (Refused a t) stay = refl
open_step m (Starved a) stay = refl
open_step m (Stopped a t) stay = absurd (false≢true (sym stay))
open_step m (Cut a i t) stay = refl

open_failure : {State Request : Type 0} (m : Machine State Request) (steps : List (Step Request)) → AreOpen m steps → stop_of (last_step steps) ≡ None
open_failure m [] stay = refl
open_failure m (x ∷ []) stay = open_step m x stay.0
open_failure m (x ∷ y ∷ steps) stay = open_failure m (y ∷ steps) stay.1

pub open-going : {State Request : Type 0} (m : Machine State Request) (steps : List (Step Request)) → AreOpen m steps → AreGoing steps
open-going m steps stay =
    let none = open_failure m steps stay in record { failure = none; stops = ap is_some none; writing = ap is_writing none }

-- how steps ended whose last one this is
pub record EndLike {Request : Type 0} (steps : List (Step Request)) (step : Step Request) : Type 0 where
  pub last : last_step steps ≡ Some step
  pub stops : stops steps ≡ stops (step ∷ [])
  pub writing : stops_writing steps ≡ stops_writing (step ∷ [])

pub end_like-push : {Request : Type 0} (steps : List (Step Request)) (step : Step Request) → EndLike (steps ++ step ∷ []) step
end_like-push steps step =
    let last = last-push steps step in
    record { last = last; stops = ap (λ x. is_some (stop_of x)) last; writing = ap (λ x. is_writing (stop_of x)) last }

-- ---- counts

pub answers-append : (xs ys : List Piece) → answers_in (xs ++ ys) ≡ answers_in xs + answers_in ys
answers-append [] ys = omega arith
answers-append (x ∷ xs) ys = omega (arith, answers-append xs ys)

pub skips-push : {Request : Type 0} (steps : List (Step Request)) (step : Step Request) → skips_in (steps ++ step ∷ []) ≡ skips_in steps + skips_by step
skips-push [] step = omega arith
skips-push (x ∷ steps) step = omega (arith, skips-push steps step)

pub all_answers-push : (scripts : List (List Piece)) (script : List Piece) → all_answers (scripts ++ script ∷ []) ≡ all_answers scripts + answers_in script
all_answers-push [] script = omega arith
all_answers-push (s ∷ scripts) script = omega (arith, all_answers-push scripts script)

pub all_skips-push : {Request : Type 0} (sessions : List (Session Request)) (session : Session Request)
    → all_skips (sessions ++ session ∷ []) ≡ all_skips sessions + skips_in session.steps
all_skips-push [] session = omega arith
all_skips-push (s ∷ sessions) session = omega (arith, all_skips-push sessions session)

-- a step counts its skipped turn, and so do steps and connections
skipped-step : {State Request : Type 0} (m : Machine State Request) (at : Stage State) (step : Step Request) → (effect m at step).skipped ≡ skips_by step
skipped-step m at (Answered a Made) = refl
skipped-step m at (Answered a Skipped) = refl
skipped-step m at (Refused t r) = refl
skipped-step m at (Starved a) = refl
skipped-step m at (Stopped a (BeforeAnswer w)) = refl
skipped-step m at (Stopped a InAnswer) = refl
skipped-step m at (Stopped a (InTurn w)) = refl
skipped-step m at (Cut t i o) = refl

pub skipped-steps : {State Request : Type 0} (m : Machine State Request) (at : Stage State) (steps : List (Step Request))
    → (steps_effect m at steps).skipped ≡ skips_in steps
skipped-steps m at [] = refl
skipped-steps m at (x ∷ steps) =
    let here = skipped-step m at x in let later = skipped-steps m (stage_after m at x) steps in omega (arith, here, later)

skipped-run : {State Request : Type 0} (m : Machine State Request) (at : Stage State) (sessions : List (Session Request))
    → (run_effect m at sessions).skipped ≡ all_skips sessions
skipped-run m at [] = refl
skipped-run m at (x ∷ sessions) =
    let here = skipped-steps m at x.steps in let later = skipped-run m (after_steps m at x.steps) sessions in omega (arith, here, later)

answers-run : {State Request : Type 0} (m : Machine State Request) (at : Stage State) (sessions : List (Session Request))
    → answers_in (run_effect m at sessions).pieces ≡ all_answers (scripts_of m at sessions)
answers-run m at [] = refl
answers-run m at (x ∷ sessions) =
    let next = after_steps m at x.steps in
    let later = answers-run m next sessions in omega (arith, answers-append (pieces_of m at x.steps) (run_effect m next sessions).pieces, later)

-- the numbers of a run by its parts
pub counts-parts : {State Request : Type 0} (m : Machine State Request) (from : State) (sessions : List (Session Request))
    → counts_of_run m from sessions ≡ record {
      answers = all_answers (scripts_of m (start_of from) sessions);
      changes = length (all_changes m (start_of from) sessions);
      skipped = all_skips sessions;
    }
counts-parts m from sessions = rw (answers-run m (start_of from) sessions, skipped-run m (start_of from) sessions) refl

-- ---- connections with one more

pub stage-sessions : {State Request : Type 0} (m : Machine State Request) (at : Stage State) (sessions : List (Session Request)) (session : Session Request)
    → after_sessions m at (sessions ++ session ∷ []) ≡ after_steps m (after_sessions m at sessions) session.steps
stage-sessions m at [] session = refl
stage-sessions m at (x ∷ sessions) session = stage-sessions m (after_steps m at x.steps) sessions session

pub or_left : (a b : Bool) → a || b ≡ false → a ≡ false
or_left false b e = refl
or_left true b e = absurd (false≢true (sym e))

pub or_right : (a b : Bool) → a || b ≡ false → b ≡ false
or_right false b e = e
or_right true b e = absurd (false≢true (sym e))

or_false : (a b : Bool) → a ≡ false → b ≡ false → a || b ≡ false
or_false false b a_is b_is = b_is
or_false true b a_is b_is = absurd (false≢true (sym a_is))

pub served-push : {State Request : Type 0} (m : Machine State Request) (at : Stage State) (connections : List Connection) (sessions : List (Session Request))
    (c : Connection) (session : Session Request) → AreServed m at connections sessions → run_stops sessions ≡ false
    → IsServed m (after_sessions m at sessions) c session → AreServed m at (connections ++ c ∷ []) (sessions ++ session ∷ [])
served-push m at [] [] c session are run is = (is, λ e. refl, tt)
served-push m at [] (s ∷ sessions) c session are run is = absurd are
served-push m at (x ∷ connections) [] c session are run is = absurd are
served-push m at (x ∷ connections) (s ∷ sessions) c session are run is = (
  are.0,
  λ e. absurd (e (is-none (stop_of (last_step s.steps)) (or_left (stops s.steps) (run_stops sessions) run))),
  served-push m (after_steps m at s.steps) connections sessions c session are.2 (or_right (stops s.steps) (run_stops sessions) run) is,
)

pub run_stops-push : {Request : Type 0} (sessions : List (Session Request)) (session : Session Request) → run_stops sessions ≡ false
    → run_stops (sessions ++ session ∷ []) ≡ stops session.steps
run_stops-push [] session run = or_none (stops session.steps)
  where
    or_none : (a : Bool) → a || false ≡ a
    or_none true = refl
    or_none false = refl
run_stops-push (s ∷ sessions) session run =
    ap (λ a. a || run_stops (sessions ++ session ∷ [])) (or_left (stops s.steps) (run_stops sessions) run)
    ∙ run_stops-push sessions session (or_right (stops s.steps) (run_stops sessions) run)

pub failure-push : {Request : Type 0} (sessions : List (Session Request)) (session : Session Request)
    → failure_of (sessions ++ session ∷ []) ≡ stop_of (last_step session.steps)
failure-push [] session = refl
failure-push (s ∷ []) session = refl
failure-push (s ∷ t ∷ sessions) session = failure-push (t ∷ sessions) session

pub writing-push : {Request : Type 0} (sessions : List (Session Request)) (session : Session Request)
    → run_stops_writing (sessions ++ session ∷ []) ≡ stops_writing session.steps
writing-push sessions session = ap is_writing (failure-push sessions session)

-- where no connection stopped the run it ended with no failure, and the other way round
pub unfailed : {Request : Type 0} (sessions : List (Session Request)) → run_stops sessions ≡ false → failure_of sessions ≡ None
unfailed [] e = refl
unfailed (s ∷ []) e = is-none (stop_of (last_step s.steps)) (or_left (stops s.steps) false e)
unfailed (s ∷ t ∷ sessions) e = unfailed (t ∷ sessions) (or_right (stops s.steps) (run_stops (t ∷ sessions)) e)

stays_behind : {A B : Type 0} (x : Option A) (y : B) (ys : List B) → (x ≢ None → y ∷ ys ≡ []) → is_some x ≡ false
stays_behind None y ys behind = refl
stays_behind (Some x) y ys behind = let none = behind (λ e. absurd cc) in absurd cc

pub unstopped : {State Request : Type 0} (m : Machine State Request) (at : Stage State) (connections : List Connection) (sessions : List (Session Request))
    → AreServed m at connections sessions → failure_of sessions ≡ None → run_stops sessions ≡ false
unstopped m at [] [] are e = refl
unstopped m at [] (s ∷ sessions) are e = absurd are
unstopped m at (c ∷ connections) [] are e = absurd are
unstopped m at (c ∷ connections) (s ∷ []) are e = or_false (stops s.steps) false (ap is_some e) refl
unstopped m at (c ∷ connections) (s ∷ t ∷ sessions) are e =
    or_false (stops s.steps) (run_stops (t ∷ sessions)) (stays_behind (stop_of (last_step s.steps)) t sessions are.1)
    (unstopped m (after_steps m at s.steps) connections (t ∷ sessions) are.2 e)
