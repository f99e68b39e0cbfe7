-- Completeness: what a run of `replay` or `serve` has done where nothing failed.
use Rattle.std.specs.Prelude.{◌≡◌, ◌≢◌, ◌⊎◌, ℕ, List, [], ◌∷◌, ◌++◌, length, None}
use Rattle.std.specs.List.{AllByRecursion}
use Rattle.disk_trait.specs.Device.{Device, Connection}
use Rattle.disk_trait.specs.Calls.{Rose}
use Rattle.run_history.specs.Sessions.{IsServed, Session, Whole, bytes_of_pieces, failure_of, run_effect, steps_effect}
use Rattle.run_history.specs.Traces.{start_of}
use Rattle.connection_loop.specs.declared.ending.ConnectionEnd.{ConnectionEnd}
use Rattle.connection_loop.specs.declared.ending.ConnectionEnd.TheVariants.{Complete, Cut, Starved}
use Rattle.connection_loop.specs.Endings.{ending_of}
use Rattle.store_states.specs.States.{StoreState}
use Rattle.tams_machine.specs.Machine.{tams_machine}
use Rattle.tams_machine.specs.Requests.{TamsRequest}
use Rattle.store_commands.specs.Histories.{RunsAs}
use Rattle.store_commands.specs.Beginning.{beginning}

-- how a connection ended on which nothing failed, by its status: behind its last request, or within
-- one that its input cut
abbrev pub EndsWell : ConnectionEnd → ℕ → Type 0
EndsWell Complete status = status ≡ 0
EndsWell Cut status = status ≡ 6
EndsWell _ status = ⊥

-- One connection has the machine's answer to each request that was heard whole, each answer was
-- said whole, and no turn was skipped. The status is by the input alone.
pub record IsAnswered (base : List ℕ) (from : StoreState) (c : Connection)
    (session : Session TamsRequest) (status : ℕ) : Type 0 where
  pub served : IsServed (tams_machine base) (start_of from) c session
  pub whole : session.link ≡ Whole
  pub made : (steps_effect (tams_machine base) (start_of from) session.steps).skipped ≡ 0
  pub told : c.told
      ≡ bytes_of_pieces (steps_effect (tams_machine base) (start_of from) session.steps).pieces
  pub ends : EndsWell (ending_of session) status

-- One connection of `replay` was answered whole.
pub record OneAnswered (base : List ℕ) (from : StoreState) (old new : Device)
    (begun given : List ℕ) (status : ℕ) : Type 0 where
  pub session : Session TamsRequest
  pub connection : Connection
  pub connections : new.link.connections ≡ old.link.connections ++ connection ∷ []
  pub given_is : given
      ≡ begun ++ (run_effect (tams_machine base) (start_of from) (session ∷ [])).moments
  pub answered : IsAnswered base from connection session status

-- No peer came: the site said in this run that none will.
pub record NoneCame (old new : Device) (begun given : List ℕ) (status : ℕ) : Type 0 where
  pub connections : new.link.connections ≡ old.link.connections
  pub given_is : given ≡ begun
  pub closed : Rose old.link.closed new.link.closed
  pub status_is : status ≡ 0

-- one connection was answered whole, or no peer came
abbrev pub IsServedWhole : List ℕ → StoreState → Device → Device → List ℕ → List ℕ → ℕ → Type 0
IsServedWhole base from old new begun given status =
    OneAnswered base from old new begun given status ⊎ NoneCame old new begun given status

-- `serve` served each of its connections, or each that came: where no request of a connection
-- wanted memory no call of its link failed, so that each answer was said whole.
pub record AreServedWhole (base : List ℕ) (from : StoreState) (old new : Device)
    (begun given : List ℕ) (connections : ℕ) (status : ℕ) : Type 0 where
  pub sessions : List (Session TamsRequest)
  pub runs : RunsAs base (beginning from old begun) sessions new given
  pub unstopped : failure_of sessions ≡ None
  pub whole :
      AllByRecursion (λ session. ending_of session ≢ Starved → session.link ≡ Whole) sessions
  pub number : (length sessions ≡ connections) ⊎ Rose old.link.closed new.link.closed
  pub status_is : status ≡ 0
