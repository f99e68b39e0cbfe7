-- The ends of `work`.
use Rattle.std.specs.Prelude.{◌≡◌, ℕ, Bool, true, List}
use Rattle.disk_trait.specs.Device.{Device}
use Rattle.store_states.specs.States.{StoreState}
use Rattle.tams_outcomes.specs.Statuses.{exit_of}
use Rattle.tams_outcomes.specs.Touching.{IsDoneOrRefused, NoneRose}
use Rattle.tams_outcomes.specs.declared.outcome.RunOutcome.{RunOutcome}
use Rattle.tams_outcomes.specs.declared.outcome.RunOutcome.TheVariants.{Worked, NotStore, Damaged, OldForm, DiskFault, NoMemory}
use Rattle.store_commands.specs.Beginning.{BeginsFrom, beginning}
use Rattle.store_commands.specs.Opening.{DamageFound, NoStoreFound, OtherFormFound, StandsForOne}
use Rattle.store_commands.specs.Working.{WorkedOff}

-- Each outcome has its cause in the file.
abbrev pub WorkCause : Device → Device → RunOutcome → Type 0
WorkCause old new (Worked turns) = old.shows ≡ true → StandsForOne old.seen
WorkCause old new NotStore = NoStoreFound old new
WorkCause old new (Damaged at) = DamageFound old new at
WorkCause old new OldForm = OtherFormFound old new
WorkCause old new DiskFault = Unit {0}
WorkCause old new NoMemory = Unit {0}
WorkCause old new _ = ⊥

-- The ends of `work`: each outcome has its cause; over a file that stands for a state one history
-- of its turns gives its moments, its exit, its bytes and its line; where no call failed it is
-- done, or refused by its cause. It waits for no peer, and where it is refused it reads no clock.
pub record WorkEnds (old new : Device) (clock : Bool) (begun given : List ℕ)
    (o : RunOutcome) : Type 0 where
  pub causes : WorkCause old new o
  pub history : (from : StoreState) → BeginsFrom from old clock begun
      → WorkedOff (beginning from old begun) new given o
  pub completeness : NoneRose old new → IsDoneOrRefused o
  pub link : new.link ≡ old.link
  pub unread : exit_of o ≡ 2 → given ≡ begun
