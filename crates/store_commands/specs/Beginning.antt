-- How a run begins over a file that stands for a state.
use Rattle.std.specs.Prelude.{◌≤◌, ◌^◌, ℕ, Bool, List, length}
use Rattle.disk_trait.specs.Device.{Device}
use Rattle.run_history.specs.Runs.{Beginning}
use Rattle.connection_loop.specs.Endings.{TellsAll}
use Rattle.store_states.specs.States.{StandsFor, StoreState}
use Rattle.tams_outcomes.specs.Touching.{IsSettled}

-- the beginning of a run over a file that stands for a state, behind the moments that were given
abbrev pub beginning : StoreState → Device → List ℕ → Beginning StoreState
beginning from old given = record {
  state = from;
  before = old.link.connections;
  closed = old.link.closed;
  given = given;
  moment = old.moment;
  handed = old.handed;
}

-- a run begins behind at most so many moments, so that its clock keeps telling
abbrev pub most_given : ℕ
most_given = 2 ^ 62

-- The premises of the headline, by whether the clock tells and what it gave when the run begins:
-- the outside is as the model says, nothing is pending, and the file stands for a state.
pub record BeginsFrom (from : StoreState) (old : Device) (clock : Bool) (given : List ℕ) : Type 0
  where
    pub tells : TellsAll old clock
    pub few : length given ≤ most_given
    pub settled : IsSettled old
    pub stands : StandsFor old.seen from
