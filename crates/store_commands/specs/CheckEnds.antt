-- The ends of `check`.
use Rattle.std.specs.Prelude.{◌≡◌, ◌⊎◌, ℕ, true, List}
use Rattle.disk_trait.specs.Device.{Device}
use Rattle.store_core.specs.Prepared.{counts_of}
use Rattle.store_states.specs.Kept.{StoreView}
use Rattle.store_states.specs.States.{StandsFor, StoreState}
use Rattle.tams_outcomes.specs.Statuses.{exit_of}
use Rattle.tams_outcomes.specs.Touching.{IsDoneOrRefused, NoneRose, Untouched}
use Rattle.tams_outcomes.specs.declared.outcome.DamagedObject as damaged_object
use Rattle.tams_outcomes.specs.declared.outcome.RunOutcome.{RunOutcome}
use Rattle.tams_outcomes.specs.declared.outcome.RunOutcome.TheVariants.{Checked, NotStore, Damaged, DamagedObject, OldForm, DiskFault, NoMemory}
use Rattle.tams_outcomes.specs.declared.outcome.StoreCounts.{StoreCounts}
use Rattle.store_commands.specs.Opening.{DamageFound, NoStoreFound, OtherFormFound, StandsForNone, StandsForOne, line_counts}
use Rattle.store_commands.specs.Probing.{AreWhole, IsFirstDamaged, archive_in}

-- what the line has of a state
abbrev pub counts_in : StoreState → StoreCounts
counts_in from = line_counts (counts_of from.archive.library)

-- The image stands for a state, the counts are those of each state for which it does, and each
-- object of it is whole.
pub record IsChecked (image : List ℕ) (counts : StoreCounts) : Type 0 where
  pub stands : StandsForOne image
  pub counts_are : (from : StoreState) → StandsFor image from → counts ≡ counts_in from
  pub whole : (from : StoreState) → StandsFor image from → AreWhole from.archive

-- The image stands for a state, and this is the first damaged object of each state for which it
-- does.
pub record HasDamagedObject (image : List ℕ) (damaged : damaged_object.DamagedObject) : Type 0 where
  pub stands : StandsForOne image
  pub first : (from : StoreState) → StandsFor image from → IsFirstDamaged from.archive damaged

-- the same of a file, and nothing was touched
abbrev pub ObjectDamageFound : Device → Device → damaged_object.DamagedObject → Type 0
ObjectDamageFound old new damaged =
    (old.shows ≡ true → HasDamagedObject old.seen damaged) × Untouched old new

-- the image stands for a state whose objects aren't all whole
pub record HasDamage (image : List ℕ) : Type 0 where
  pub from : StoreState
  pub stands : StandsFor image from
  pub damaged : ¬ (AreWhole from.archive)

-- what an image is that `check` refuses: it stands for no state, or for one with a damaged object
abbrev pub RefusesCheck : List ℕ → Type 0
RefusesCheck image = StandsForNone image ⊎ HasDamage image

-- Each outcome has its cause: the store was opened, probed and counted, the file is none, is
-- damaged, has a damaged object or another form, the disk failed, or there was no memory.
abbrev pub CheckCause : Device → Device → RunOutcome → Type 0
CheckCause old new (Checked counts) =
    (old.shows ≡ true → IsChecked old.seen counts) × Untouched old new
CheckCause old new NotStore = NoStoreFound old new
CheckCause old new (Damaged at) = DamageFound old new at
CheckCause old new (DamagedObject damaged) = ObjectDamageFound old new damaged
CheckCause old new OldForm = OtherFormFound old new
CheckCause old new DiskFault = Untouched old new
CheckCause old new NoMemory = Untouched old new
CheckCause old new _ = ⊥

-- The cause of each outcome of probing the objects of what is kept over a device.
abbrev pub ProbedCause : StoreView → Device → RunOutcome → Type 0
ProbedCause kept d (Checked counts) =
    (d.shows ≡ true → AreWhole (archive_in d.seen kept))
    × (counts ≡ line_counts (counts_of kept.library))
ProbedCause kept d (DamagedObject damaged) =
    d.shows ≡ true → IsFirstDamaged (archive_in d.seen kept) damaged
ProbedCause kept d DiskFault = Unit {0}
ProbedCause kept d NoMemory = Unit {0}
ProbedCause kept d _ = ⊥

-- The ends of `check`: each outcome has its cause; at exit 0 its line has the counts of the state
-- for which the file stands, and each object of it is whole; where no call failed it is done, or
-- refused by its cause. It writes nothing, and waits for no peer.
pub record CheckEnds (old new : Device) (o : RunOutcome) : Type 0 where
  pub causes : CheckCause old new o
  pub line : exit_of o ≡ 0 → old.shows ≡ true → (from : StoreState) → StandsFor old.seen from
      → o ≡ Checked (counts_in from)
  pub whole : exit_of o ≡ 0 → old.shows ≡ true → (from : StoreState) → StandsFor old.seen from
      → AreWhole from.archive
  pub completeness : NoneRose old new → IsDoneOrRefused o
  pub untouched : Untouched old new
