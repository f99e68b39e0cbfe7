-- How a command ends whose store couldn't be opened, and what its file then is.
use Rattle.std.specs.Prelude.{◌≡◌, ℕ, true, List}
use Rattle.disk_trait.specs.Device.{Device}
use Rattle.media_journal.specs.declared.fault.JournalFault.{JournalFault}
use Rattle.media_journal.specs.declared.fault.JournalFault.TheVariants as opening
use Rattle.media_journal.specs.Opening.{IsStore}
use Rattle.store_core.specs.declared.library.Counts.{Counts}
use Rattle.store_opening.specs.Opening.{StandsByOther, StoreDamagedAt}
use Rattle.store_states.specs.States.{StandsFor, StoreState}
use Rattle.tams_outcomes.specs.Touching.{Untouched}
use Rattle.tams_outcomes.specs.declared.outcome.RunOutcome.{RunOutcome}
use Rattle.tams_outcomes.specs.declared.outcome.RunOutcome.TheVariants.{Served, Cut, NotStore, Damaged, OldForm, DiskFault, NoMemory, LinkFault}
use Rattle.tams_outcomes.specs.declared.outcome.StoreCounts.{StoreCounts}

-- the image stands for some state
abbrev pub StandsForOne : List ℕ → Type 0
StandsForOne image = (s : StoreState) × StandsFor image s

-- the image stands for no state
abbrev pub StandsForNone : List ℕ → Type 0
StandsForNone image = (s : StoreState) → StandsFor image s → ⊥

-- how opening a store fails
abbrev pub opening_outcome : JournalFault → RunOutcome
opening_outcome opening.NotStore = NotStore
opening_outcome (opening.Damaged at) = Damaged at
opening_outcome opening.OldForm = OldForm
opening_outcome opening.Disk = DiskFault
opening_outcome opening.Memory = NoMemory

-- the file is no store, and nothing was touched
abbrev pub NoStoreFound : Device → Device → Type 0
NoStoreFound old new = (old.shows ≡ true → ¬ (IsStore old.seen)) × Untouched old new

-- the file is a store that is damaged at this place, and nothing was touched
abbrev pub DamageFound : Device → Device → ℕ → Type 0
DamageFound old new at =
    (old.shows ≡ true → IsStore old.seen × StoreDamagedAt old.seen at) × Untouched old new

-- the file stands for a state in a form that isn't in use, and nothing was touched
abbrev pub OtherFormFound : Device → Device → Type 0
OtherFormFound old new = (old.shows ≡ true → StandsByOther old.seen) × Untouched old new

-- the cause of each end of `replay` and `serve` in the file
abbrev pub OpenedCause : Device → Device → RunOutcome → Type 0
OpenedCause old new (Served requests changes skipped) = old.shows ≡ true → StandsForOne old.seen
OpenedCause old new Cut = old.shows ≡ true → StandsForOne old.seen
OpenedCause old new LinkFault = old.shows ≡ true → StandsForOne old.seen
OpenedCause old new NotStore = NoStoreFound old new
OpenedCause old new (Damaged at) = DamageFound old new at
OpenedCause old new OldForm = OtherFormFound old new
OpenedCause old new DiskFault = Unit {0}
OpenedCause old new NoMemory = Unit {0}
OpenedCause old new _ = ⊥

-- the counts of a store as its line has them
abbrev pub line_counts : Counts → StoreCounts
line_counts counts = record {
  flows = counts.flows;
  segments = counts.segments;
  objects = counts.objects;
  requests = counts.requests;
  hooks = counts.hooks;
  events = counts.events;
}
