-- Parts of what steps and connections come to, and how they end, each by itself. The proofs speak
-- in these; whoever reads the claim may pass over them.
use Rattle.std.specs.Prelude.{◌+◌, ◌||◌, ℕ, Bool, true, false, List, [], ◌∷◌, map, Option, Some, None, is_some, if◌then◌else◌}
use Rattle.run_history.specs.Machine.{Failure, BeforeAnswer, InAnswer, InTurn, Machine}
use Rattle.run_history.specs.Steps.{Effect, Step, Answered, Refused, Starved, Stopped, Cut, Made, Skipped, Piece, Stage, Turned, after_answer, effect}
use Rattle.run_history.specs.Sessions.{LinkEnd, Hearing, Saying, Whole, Session, after_steps, answers_in, failure_of, is_writing, last_step, run_effect, session_effects, steps_effect, stop_of}

-- ---- what a step comes to

-- whether a turn was made
abbrev pub is_made : Turned → Bool
is_made Made = true
is_made Skipped = false

-- a turn that was skipped
abbrev pub skips_by : {Request : Type 0} → Step Request → ℕ
skips_by (Answered ask Made) = 0
skips_by (Answered ask Skipped) = 1
skips_by (Refused text refusal) = 0
skips_by (Starved ask) = 0
skips_by (Stopped ask failure) = 0
skips_by (Cut text interim moment) = 0

-- the bytes of its changes, from a state
abbrev pub step_handed : {State Request : Type 0} → Machine State Request → State → Step Request → ℕ
step_handed m s (Answered ask turned) = m.handed ask.request ask.moment s
    + (if is_made turned then m.turn_handed ask.moment (after_answer m s ask) else 0)
step_handed m s (Refused text refusal) = 0
step_handed m s (Starved ask) = 0
step_handed m s (Stopped ask failure) =
    (effect m (record { made = 0; state = s }) (Stopped ask failure)).handed
step_handed m s (Cut text interim moment) = 0

-- the bytes that may have been handed on of a request that was cut, once it had taken its moment
abbrev pub step_cut : {State Request : Type 0} → Machine State Request → Step Request → ℕ
step_cut m (Cut text interim (Some moment)) = m.cut_handed text
step_cut m step = 0

-- an effect without what it counts and hands on
abbrev pub without_counts : {State : Type 0} → Effect State → Effect State
without_counts e = record e { skipped = 0; handed = 0; cut = 0 }

-- ---- what the steps of one connection come to, from a stage of the run

-- all that they tell
abbrev pub pieces_of : {State Request : Type 0} → Machine State Request → Stage State
    → List (Step Request) → List Piece
pieces_of m at steps = (steps_effect m at steps).pieces

-- their changes, each as the state after it
abbrev pub changes_of : {State Request : Type 0} → Machine State Request → Stage State
    → List (Step Request) → List State
changes_of m at steps = (steps_effect m at steps).changes

-- the moments that they took
abbrev pub moments_of : {State Request : Type 0} → Machine State Request → Stage State
    → List (Step Request) → List ℕ
moments_of m at steps = (steps_effect m at steps).moments

-- the number of skipped turns among them
abbrev pub skips_in : {Request : Type 0} → List (Step Request) → ℕ
skips_in [] = 0
skips_in (step ∷ steps) = skips_by step + skips_in steps

-- ---- what connections one after another come to

-- what each of them is to be told
abbrev pub scripts_of : {State Request : Type 0} → Machine State Request → Stage State
    → List (Session Request) → List (List Piece)
scripts_of m at sessions = map (λ e. e.pieces) (session_effects m at sessions)

-- all their changes
abbrev pub all_changes : {State Request : Type 0} → Machine State Request → Stage State
    → List (Session Request) → List State
all_changes m at sessions = (run_effect m at sessions).changes

-- all moments that they took
abbrev pub all_moments : {State Request : Type 0} → Machine State Request → Stage State
    → List (Session Request) → List ℕ
all_moments m at sessions = (run_effect m at sessions).moments

-- the number of answers of all scripts
abbrev pub all_answers : List (List Piece) → ℕ
all_answers [] = 0
all_answers (script ∷ scripts) = answers_in script + all_answers scripts

-- the number of turns that were skipped
abbrev pub all_skips : {Request : Type 0} → List (Session Request) → ℕ
all_skips [] = 0
all_skips (session ∷ later) = skips_in session.steps + all_skips later

-- the stage after them
abbrev pub after_sessions : {State Request : Type 0} → Machine State Request → Stage State
    → List (Session Request) → Stage State
after_sessions m at [] = at
after_sessions m at (session ∷ later) = after_sessions m (after_steps m at session.steps) later

-- ---- how a connection ended

-- whether the disk failed in the last of these steps, which ends the run
abbrev pub stops : {Request : Type 0} → List (Step Request) → Bool
stops steps = is_some (stop_of (last_step steps))

-- within an answer
abbrev pub is_in_answer : Option Failure → Bool
is_in_answer None = false
is_in_answer (Some (BeforeAnswer writing)) = false
is_in_answer (Some InAnswer) = true
is_in_answer (Some (InTurn writing)) = false

-- whether it did within an answer
abbrev pub stops_in_answer : {Request : Type 0} → List (Step Request) → Bool
stops_in_answer steps = is_in_answer (stop_of (last_step steps))

-- whether it did while a record was being written
abbrev pub stops_writing : {Request : Type 0} → List (Step Request) → Bool
stops_writing steps = is_writing (stop_of (last_step steps))

-- whether it did so in the last of these connections
abbrev pub run_stops_writing : {Request : Type 0} → List (Session Request) → Bool
run_stops_writing sessions = is_writing (failure_of sessions)

-- whether it did in one of these connections
abbrev pub run_stops : {Request : Type 0} → List (Session Request) → Bool
run_stops [] = false
run_stops (session ∷ later) = stops session.steps || run_stops later

-- whether a hearing failed
abbrev pub has_hearing_failed : LinkEnd → Bool
has_hearing_failed Whole = false
has_hearing_failed Hearing = true
has_hearing_failed Saying = false

-- whether a saying failed
abbrev pub has_saying_failed : LinkEnd → Bool
has_saying_failed Whole = false
has_saying_failed Hearing = false
has_saying_failed Saying = true

-- whether a call of the link failed
abbrev pub has_link_failed : LinkEnd → Bool
has_link_failed link = has_hearing_failed link || has_saying_failed link
