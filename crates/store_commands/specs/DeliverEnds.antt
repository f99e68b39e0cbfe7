-- The ends of `deliver`.
use Rattle.std.specs.Prelude.{◌≡◌, ℕ, Bool, true, false, List}
use Rattle.disk_trait.specs.Calls.{Rose}
use Rattle.disk_trait.specs.Device.{Device}
use Rattle.store_states.specs.States.{StoreState}
use Rattle.tams_outcomes.specs.Statuses.{exit_of}
use Rattle.tams_outcomes.specs.Touching.{IsDoneOrRefused}
use Rattle.tams_outcomes.specs.declared.outcome.RunOutcome.{RunOutcome}
use Rattle.tams_outcomes.specs.declared.outcome.RunOutcome.TheVariants.{Delivered, NotStore, Damaged, OldForm, DiskFault, NoMemory}
use Rattle.store_commands.specs.Beginning.{BeginsFrom, beginning}
use Rattle.store_commands.specs.Delivering.{DeliveredOff}
use Rattle.store_commands.specs.Opening.{DamageFound, NoStoreFound, OtherFormFound, StandsForOne}

-- Each outcome has its cause in the file.
abbrev pub DeliverCause : Device → Device → RunOutcome → Type 0
DeliverCause old new (Delivered delivered waiting full) = old.shows ≡ true → StandsForOne old.seen
DeliverCause old new NotStore = NoStoreFound old new
DeliverCause old new (Damaged at) = DamageFound old new at
DeliverCause old new OldForm = OtherFormFound old new
DeliverCause old new DiskFault = Unit {0}
DeliverCause old new NoMemory = Unit {0}
DeliverCause old new _ = ⊥

-- The ends of `deliver`: each outcome has its cause; over a file that stands for a state one
-- history of its attempts gives its connections, its moments, its exit and its line; unless a call
-- of the disk failed it is done, or refused by its cause. It waits for no peer, and leaves no
-- connection open. Where it is refused it reads no clock.
pub record DeliverEnds (old new : Device) (clock : Bool) (begun given : List ℕ)
    (o : RunOutcome) : Type 0 where
  pub causes : DeliverCause old new o
  pub history : (from : StoreState) → BeginsFrom from old clock begun
      → DeliveredOff (beginning from old begun) old new given o
  pub completeness : ¬ (Rose old.faults new.faults) → IsDoneOrRefused o
  pub closed : old.link.under_way ≡ false → new.link.under_way ≡ false
  pub peers : new.link.peer_faults ≡ old.link.peer_faults
  pub unread : exit_of o ≡ 2 → given ≡ begun

-- The same as it is proved, which proofs alone need.
pub record DeliverRun (old new : Device) (clock : Bool) (begun given : List ℕ)
    (o : RunOutcome) : Type 0 where
  pub cause : DeliverCause old new o
  pub history : (from : StoreState) → BeginsFrom from old clock begun
      → DeliveredOff (beginning from old begun) old new given o
  pub closed : old.link.under_way ≡ false → new.link.under_way ≡ false
  pub peers : new.link.peer_faults ≡ old.link.peer_faults
  pub unread : exit_of o ≡ 2 → given ≡ begun
