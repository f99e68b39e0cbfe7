-- A run that goes on: the connections that have ended, the one that is under way, and what they
-- count. Contracts of the parts speak in these; whoever reads the claim may pass over them.
use Rattle.std.specs.Prelude.{◌≡◌, ◌≢◌, ◌<◌, ℕ, true, false, List, [], ◌∷◌, ◌++◌, length, All, None}
use Rattle.std.specs.List.{AllByRecursion}
use Rattle.disk_trait.specs.Device.{Connection, Device, HearCall, Unheard}
use Rattle.run_history.specs.Machine.{Machine}
use Rattle.run_history.specs.Steps.{Stage, Step, is_last}
use Rattle.run_history.specs.Sessions.{AreServed, AreSteps, OwesNothing, Session, Whole, after_steps, answers_in, bytes_of_pieces, failure_of, most_answers, texts_of}
use Rattle.run_history.specs.Traces.{counts_of_run, start_of, states_of, trace_of}
pub use Rattle.run_history.specs.Traces.{RunCounts}
use Rattle.run_history.specs.Parts.{after_sessions, all_moments, pieces_of, run_stops, run_stops_writing}
use Rattle.run_history.specs.Runs.{Beginning, HasHanded}
use Rattle.run_history.specs.Reaching.{Reached}
use Rattle.run_history.specs.Laws.{under_way}

-- ---- a run between two connections, and within one

-- Connections were served one after another, and this is what they heard, were told, left and,
-- unless the disk failed, handed to the device.
pub record HasServed {State Request : Type 0} (m : Machine State Request) (b : Beginning State)
    (d : Device) (given : List ℕ) (sessions : List (Session Request)) (n : RunCounts) : Type 0 where
  pub connections : List Connection
  pub connections_are : d.link.connections ≡ b.before ++ connections
  pub served : AreServed m (start_of b.state) connections sessions
  pub given_is : given ≡ b.given ++ all_moments m (start_of b.state) sessions
  pub counts : n ≡ counts_of_run m b.state sessions
  pub reached : Reached m b (trace_of m b.state sessions) false (run_stops_writing sessions) d
  pub good : All m.good (states_of (trace_of m b.state sessions))
  pub handed : failure_of sessions ≡ None → HasHanded m b sessions d.handed

-- what is to be known of the connection that is under way: the state, the bytes that were heard and
-- not yet taken, and the number of requests that it had
pub record Held (State : Type 0) : Type 0 where
  pub state : State
  pub unread : List ℕ
  pub taken : ℕ

-- a connection that heard and was told this, with these hearings, and on which no call failed
abbrev pub connection_with : List ℕ → List ℕ → List HearCall → Connection
connection_with heard told hearings = record {
  heard = heard;
  told = told;
  ended = false;
  unheard = false;
  unsaid = false;
  hearings = hearings;
}

-- Each of these calls of `hear` began when nothing was owed, and none failed.
abbrev pub AreOnTime : {State Request : Type 0} → Machine State Request → Stage State → List ℕ
    → List (Step Request) → List HearCall → Type 0
AreOnTime m at heard steps =
    AllByRecursion (λ call. OwesNothing m at heard steps call × (call.end ≢ Unheard))

-- A connection is under way behind others: it had these steps, none of which ended it, and each
-- byte that was heard is of one of them or unread.
pub record Going {State Request : Type 0} (m : Machine State Request) (b : Beginning State)
    (d : Device) (given : List ℕ) (held : Held State) (finished : List (Session Request))
    (steps : List (Step Request)) (n : RunCounts) : Type 0 where
  pub connections : List Connection
  pub hearings : List HearCall
  pub connections_are : d.link.connections ≡ b.before ++ (connections
      ++ connection_with (texts_of steps ++ held.unread)
      (bytes_of_pieces (pieces_of m (after_sessions m (start_of b.state) finished) steps))
      hearings ∷ [])
  pub on_time : AreOnTime m (after_sessions m (start_of b.state) finished)
      (texts_of steps ++ held.unread) steps hearings
  pub served : AreServed m (start_of b.state) connections finished
  pub unstopped : run_stops finished ≡ false
  pub given_is : given
      ≡ b.given ++ all_moments m (start_of b.state) (finished ++ under_way steps Whole ∷ [])
  pub steps_are : AreSteps m 0 (after_sessions m (start_of b.state) finished) steps
  pub stay : AllByRecursion (λ step. is_last m step ≡ false) steps
  pub taken : held.taken ≡ length steps
  pub answers : answers_in (pieces_of m (after_sessions m (start_of b.state) finished) steps)
      ≡ length steps
  pub few : length steps < most_answers
  pub state :
      held.state ≡ (after_steps m (after_sessions m (start_of b.state) finished) steps).state
  pub counts : n ≡ counts_of_run m b.state (finished ++ under_way steps Whole ∷ [])
  pub reached : Reached m b (trace_of m b.state (finished ++ under_way steps Whole ∷ [])) true
      false d
  pub good : All m.good (states_of (trace_of m b.state (finished ++ under_way steps Whole ∷ [])))
  pub handed : HasHanded m b (finished ++ under_way steps Whole ∷ []) d.handed
