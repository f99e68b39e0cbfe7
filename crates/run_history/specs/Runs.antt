-- A run over a device: where it began, what each crash since leaves of it, and what it came to.
use Rattle.std.specs.Prelude.{◌≡◌, ◌≤◌, ◌+◌, ◌-◌, ◌⊎◌, ℕ, Bool, true, false, List, ◌++◌, length, map, All}
use Rattle.disk_trait.specs.Device.{Device, Left, Connection}
use Rattle.run_history.specs.Machine.{Machine}
use Rattle.run_history.specs.Sessions.{Session, AreServed, failure_of, is_writing, run_effect}
use Rattle.run_history.specs.Traces.{Trace, IsLeft, start_of, state_after, state_now, states_of, trace_of}

-- where a run began: the state for which the file stood, the connections and the moments before it,
-- how often it had been said that no peer will come, its first moment, and how many bytes the
-- device had been handed
pub record Beginning (State : Type 0) : Type 0 where
  pub state : State
  pub before : List Connection
  pub closed : ℕ
  pub given : List ℕ
  pub moment : ℕ
  pub handed : ℕ

-- what a crash left of a run is right by its trace
pub record IsRight {State Request : Type 0} (m : Machine State Request) (b : Beginning State)
    (t : Trace State) (p : Left) : Type 0 where
  pub told : List (List ℕ)
  pub told_is : p.told ≡ map (λ c. c.told) b.before ++ told
  pub left : IsLeft m t told p.image

-- each crash since the run began left what is right
pub record AllRight {State Request : Type 0} (m : Machine State Request) (b : Beginning State)
    (t : Trace State) (d : Device) : Type 0 where
  pub begun : b.moment ≤ d.moment
  pub since : (p : Left) → d.left_since b.moment p → IsRight m b t p

-- An image stands for the last state; or for the one before it, where the disk failed while the
-- record of the last change was being written.
abbrev pub StandsNow : {State Request : Type 0} → Machine State Request → List ℕ → Trace State
    → Bool → Type 0
StandsNow m image t false = m.stands image (state_now t)
StandsNow m image t true =
    m.stands image (state_now t) ⊎ m.stands image (state_after (length t.changes - 1) t)

-- By now a device was handed so many bytes: since the beginning of the run at least those of its
-- changes, and at most these and what may have been handed on of each request that was cut.
pub record HasHanded {State Request : Type 0} (m : Machine State Request) (b : Beginning State)
    (sessions : List (Session Request)) (handed : ℕ) : Type 0 where
  pub least : b.handed + (run_effect m (start_of b.state) sessions).handed ≤ handed
  pub most : handed ≤ b.handed + (run_effect m (start_of b.state) sessions).handed
      + (run_effect m (start_of b.state) sessions).cut

-- A run has ended, by one history of its connections: what each heard and was told, the moments
-- that were taken, what each crash since the beginning left, and the state for which the file
-- stands. Each state on the way is good.
pub record Ran {State Request : Type 0} (m : Machine State Request) (b : Beginning State)
    (sessions : List (Session Request)) (new : Device) (given : List ℕ) : Type 0 where
  pub connections : List Connection
  pub connections_are : new.link.connections ≡ b.before ++ connections
  pub given_is : given ≡ b.given ++ (run_effect m (start_of b.state) sessions).moments
  pub served : AreServed m (start_of b.state) connections sessions
  pub right : AllRight m b (trace_of m b.state sessions) new
  pub stands : StandsNow m new.seen (trace_of m b.state sessions) (is_writing (failure_of sessions))
  pub good : All m.good (states_of (trace_of m b.state sessions))
