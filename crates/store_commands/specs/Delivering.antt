-- What a run of `deliver` makes of a file that stands for a state.
use Rattle.std.specs.Prelude.{◌≡◌, ℕ, List, Result, Ok, Err}
use Rattle.disk_trait.specs.Device.{Device}
use Rattle.run_history.specs.Runs.{Beginning}
use Rattle.media_store.specs.declared.fault.StoreFault.{StoreFault}
use Rattle.media_store.specs.declared.fault.StoreFault.TheVariants as faults
use Rattle.store_states.specs.States.{StoreState}
use Rattle.store_delivery.specs.declared.delivering.Deliveries.{Deliveries}
use Rattle.store_delivery.specs.Deliveries.{HasDelivered}
use Rattle.webhook_outbox.specs.Delivered.{counted}
use Rattle.tams_outcomes.specs.declared.outcome.RunOutcome.{RunOutcome}
use Rattle.tams_outcomes.specs.declared.outcome.RunOutcome.TheVariants.{Delivered, DiskFault, NoMemory}

-- the outcome of a delivery by how it ended, where so many events waited
abbrev pub deliver_outcome : ℕ → Result Deliveries StoreFault → RunOutcome
deliver_outcome waiting (Ok done) = Delivered done.delivered waiting done.full
deliver_outcome waiting (Err faults.Disk) = DiskFault
deliver_outcome waiting (Err faults.Memory) = NoMemory

-- a run of `deliver` from its beginning: its attempts, and the outcome that puts its line
pub record DeliveredOff (b : Beginning StoreState) (old new : Device) (given : List ℕ)
    (outcome : RunOutcome) : Type 0 where
  pub end : Result Deliveries StoreFault
  pub delivered : HasDelivered b old.link.dials new given end
  pub line : outcome ≡ deliver_outcome (counted b.state.archive.library.outbox.events) end
