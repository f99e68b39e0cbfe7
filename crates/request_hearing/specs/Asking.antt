-- A connection that is under way, and on which a request more has begun: what was heard of it and
-- said to it before its answer. Over any machine.
use Rattle.std.specs.Prelude.{◌≡◌, ◌<◌, ◌≤◌, ◌+◌, ℕ, Bool, true, false, List, [], ◌∷◌, ◌++◌, length, All}
use Rattle.std.specs.List.{AllByRecursion}
use Rattle.disk_trait.specs.Device.{Connection, Device, HearCall}
use Rattle.site_edge.specs.Links.{Sends, after_say, change_last}
use Rattle.run_history.specs.Machine.{Cutting, Machine}
use Rattle.run_history.specs.Steps.{IsStep, Reply, Stage, Step, effect, interim_pieces, is_last, step_text, telling}
use Rattle.run_history.specs.Sessions.{AreServed, AreSteps, IsUnfinished, Session, Whole, after_steps, answers_in, bytes_of_pieces, most_answers, texts_of}
use Rattle.run_history.specs.Traces.{Trace, counts_of_run, start_of, states_of, trace_of}
use Rattle.run_history.specs.Runs.{Beginning, HasHanded}
use Rattle.run_history.specs.Laws.{under_way}
use Rattle.run_history.specs.Serving.{AreOnTime, Held, RunCounts, connection_with}
use Rattle.run_history.specs.Parts.{after_sessions, all_moments, pieces_of, run_stops, skips_by, stops, stops_in_answer, stops_writing, without_counts}
use Rattle.run_history.specs.Growing.{with_piece}
use Rattle.run_history.specs.Reaching.{Reached}
use Rattle.request_hearing.specs.Hearing.{interim_bytes, interim_where, with_interim}

-- What is known of a connection under way behind these others, apart from the device and from what
-- it heard: they were served, and it had these steps, none of which ended it.
pub record IsUnderWay {State Request : Type 0} (m : Machine State Request) (b : Beginning State)
    (connections : List Connection) (given : List ℕ) (state : State) (taken : ℕ)
    (finished : List (Session Request)) (steps : List (Step Request)) (n : RunCounts) : Type 0 where
  pub served : AreServed m (start_of b.state) connections finished
  pub unstopped : run_stops finished ≡ false
  pub given_is : given
      ≡ b.given ++ all_moments m (start_of b.state) (finished ++ under_way steps Whole ∷ [])
  pub steps_are : AreSteps m 0 (after_sessions m (start_of b.state) finished) steps
  pub stay : AllByRecursion (λ step. is_last m step ≡ false) steps
  pub taken_is : taken ≡ length steps
  pub answers : answers_in (pieces_of m (after_sessions m (start_of b.state) finished) steps)
      ≡ length steps
  pub few : length steps < most_answers
  pub state_is : state ≡ (after_steps m (after_sessions m (start_of b.state) finished) steps).state
  pub counts : n ≡ counts_of_run m b.state (finished ++ under_way steps Whole ∷ [])
  pub good : All m.good (states_of (trace_of m b.state (finished ++ under_way steps Whole ∷ [])))

-- the trace of a run whose last connection had these steps, and then the interim response where it
-- was said
abbrev pub asked_trace : {State Request : Type 0} → Machine State Request → Beginning State → Bool
    → List (Session Request) → List (Step Request) → Trace State
asked_trace m b said finished steps =
    with_interim said (trace_of m b.state (finished ++ under_way steps Whole ∷ []))

-- What a hearing waits for behind so many requests: one of which these bytes were heard isn't
-- whole, and this is all that it asks for so far.
pub record WaitsFor {State Request : Type 0} (m : Machine State Request) (n : ℕ)
    (heard told : List ℕ) : Type 0 where
  pub cutting : Cutting
  pub unfinished : IsUnfinished m n heard
  pub cuts : m.cuts heard cutting
  pub told_is : told ≡ bytes_of_pieces (interim_pieces cutting.interim)

-- A connection is under way behind others, and a request more has begun on it: of it these bytes
-- are unread, and its interim response was said where `said` is true.
pub record Open {State Request : Type 0} (m : Machine State Request) (b : Beginning State)
    (d : Device) (given : List ℕ) (held : Held State) (said : Bool)
    (finished : List (Session Request)) (steps : List (Step Request)) (n : RunCounts) : Type 0 where
  pub connections : List Connection
  pub hearings : List HearCall
  pub so_far : IsUnderWay m b connections given held.state held.taken finished steps n
  pub connections_are : d.link.connections ≡ b.before ++ (connections
      ++ connection_with (texts_of steps ++ held.unread)
      (bytes_of_pieces (pieces_of m (after_sessions m (start_of b.state) finished) steps)
      ++ interim_bytes said) hearings ∷ [])
  pub on_time : AreOnTime m (after_sessions m (start_of b.state) finished)
      (texts_of steps ++ held.unread) steps hearings

-- The same, and nothing was changed for it so far.
pub record Asking {State Request : Type 0} (m : Machine State Request) (b : Beginning State)
    (d : Device) (given : List ℕ) (held : Held State) (said : Bool)
    (finished : List (Session Request)) (steps : List (Step Request)) (n : RunCounts) : Type 0 where
  pub begun : Open m b d given held said finished steps n
  pub reached : Reached m b (asked_trace m b said finished steps) true false d

-- ---- the answer

-- a trace with these changes more
abbrev pub with_states : {State : Type 0} → List State → Trace State → Trace State
with_states states t = record t { changes = t.changes ++ states }

-- a trace with a step's changes, and its reply that counts so many of them
abbrev pub replied_trace : {State : Type 0} → List State → List ℕ → ℕ → Trace State → Trace State
replied_trace states bytes made t =
    with_piece (Reply bytes (length t.changes + made)) (with_states states t)

-- the same with the changes of the turn behind it
abbrev pub answered_trace : {State : Type 0} → List State → List ℕ → ℕ → List State → Trace State
    → Trace State
answered_trace states bytes made later t = with_states later (replied_trace states bytes made t)

-- the counts with a step that gives an answer and makes these changes
abbrev pub counted_more : {State Request : Type 0} → RunCounts → List State → Step Request
    → RunCounts
counted_more n states step = record {
  answers = n.answers + 1;
  changes = n.changes + length states;
  skipped = n.skipped + skips_by step;
}

-- What is known of a step that answers the request that has begun. Its changes were made, its reply
-- was said, of which `whole` says all of it was, and then the changes of the turn behind it were
-- made. A saying failed where `linked` is false; where the disk failed within the answer a byte of
-- it was told; the disk failed while the record of the last
-- change was being written where `writing` is true. Unless the disk failed, what was handed to it
-- is what the steps hand on.
pub record IsAnswerStep {State Request : Type 0} (m : Machine State Request) (b : Beginning State)
    (old new : Device) (given : List ℕ) (held : Held State) (said : Bool)
    (finished : List (Session Request)) (steps : List (Step Request)) (n : RunCounts)
    (step : Step Request) (bytes : List ℕ) (made : ℕ) (states later : List State)
    (moments rest : List ℕ) (whole linked writing : Bool) : Type 0 where
  pub begun : Open m b old given held said finished steps n
  pub is : IsStep m held.taken held.state step
  pub text : held.unread ≡ step_text step ++ rest
  pub effect_is : (at : Stage State) → at.state ≡ held.state
      → without_counts (effect m at step) ≡ record (telling (interim_pieces (interim_where said)
      ++ Reply bytes (at.made + made) ∷ []) moments) { changes = states ++ later }
  pub told : (sent : List ℕ) × Sends whole bytes sent
      × (new.link.connections ≡ change_last (after_say linked sent) old.link.connections)
  pub full : linked ≡ true → stops_in_answer (step ∷ []) ≡ false → whole ≡ true
  pub some : stops_in_answer (step ∷ []) ≡ true → 1 ≤ length told.0
  pub reached : Reached m b
      (answered_trace states bytes made later (asked_trace m b said finished steps)) whole writing
      new
  pub good : All m.good (states ++ later)
  pub written : stops_writing (step ∷ []) ≡ writing
  pub handed : stops (step ∷ []) ≡ false
      → HasHanded m b (finished ++ under_way (steps ++ step ∷ []) Whole ∷ []) new.handed
