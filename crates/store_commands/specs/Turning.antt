-- Turns under way, which proofs alone need.
use Rattle.std.specs.Prelude.{◌≡◌, ◌≤◌, ◌+◌, ℕ, Bool, true, false, List, [], ◌∷◌, ◌++◌, length, All, None}
use Rattle.disk_trait.specs.Calls.{DiskCalls}
use Rattle.disk_trait.specs.Device.{Device}
use Rattle.site_edge.specs.Clocks.{IsMoment}
use Rattle.connection_loop.specs.Endings.{TellsAll}
use Rattle.library_laws.specs.MediaLaws.{IsGoodArchive}
use Rattle.media_store.specs.Stores.{StoreSeen, size_of}
use Rattle.run_history.specs.Runs.{Beginning}
use Rattle.run_history.specs.Steps.{last_or}
use Rattle.run_history.specs.Reaching.{Reached}
use Rattle.store_states.specs.States.{StoreState}
use Rattle.tams_machine.specs.Machine.{tams_machine}
use Rattle.tams_service.specs.Keeping.{KeepsState}
use Rattle.tams_outcomes.specs.Statuses.{exit_of}
use Rattle.tams_outcomes.specs.declared.outcome.RunOutcome.{RunOutcome}
use Rattle.store_commands.specs.Beginning.{BeginsFrom, beginning, most_given}
use Rattle.store_commands.specs.WorkEnds.{WorkCause}
use Rattle.store_commands.specs.Working.{HaveTurned, WorkedOff, turns_handed, turns_trace}

-- Turns at these moments changed something, left these states, and may go on.
pub record IsWorking (b : Beginning StoreState) (moments : List ℕ) (states : List StoreState)
    (d : Device) (given : List ℕ) (store : StoreSeen) : Type 0 where
  pub turned : HaveTurned b.state moments states
  pub given_is : given ≡ b.given ++ moments
  pub are_moments : All IsMoment moments
  pub reached : Reached (tams_machine []) b (turns_trace b.state states) false false d
  pub good : All (λ s. IsGoodArchive s.archive) (b.state ∷ states)
  pub keeps : KeepsState store d (last_or b.state states)
  pub handed : d.handed ≡ b.handed + turns_handed b.state moments states

-- the same of so many turns
pub record SoMany (b : Beginning StoreState) (d : Device) (given : List ℕ) (store : StoreSeen)
    (turns : ℕ) : Type 0 where
  pub moments : List ℕ
  pub states : List StoreState
  pub number : length moments ≡ turns
  pub working : IsWorking b moments states d given store

-- Turns were made since a device and a clock, each of which changed something, and the clock still
-- tells.
pub record WorksOn (old now : Device) (told tells : Bool) (begun given : List ℕ)
    (first store : StoreSeen) (turns counter : ℕ) : Type 0 where
  pub unspent : store.spent ≡ false
  pub idle : store.put ≡ None
  pub size_is : size_of store.kept ≤ now.size
  pub counted : turns ≡ counter
  pub calls : DiskCalls true old now
  pub working : TellsAll old told → length begun ≤ most_given → (b : Beginning StoreState)
      → IsWorking b [] [] old begun first → (tells ≡ true) × SoMany b now given store turns

-- The ends of `work` as they are proved, each with its cause, and the one history of its turns. It
-- waits for nobody.
pub record WorkRun (old new : Device) (clock : Bool) (begun given : List ℕ)
    (o : RunOutcome) : Type 0 where
  pub cause : WorkCause old new o
  pub link : new.link ≡ old.link
  pub history : (from : StoreState) → BeginsFrom from old clock begun
      → WorkedOff (beginning from old begun) new given o
  pub unread : exit_of o ≡ 2 → given ≡ begun
