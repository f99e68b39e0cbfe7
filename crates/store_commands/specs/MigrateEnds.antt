-- The ends of `migrate`.
use Rattle.std.specs.Prelude.{◌≡◌, ◌⊎◌, true, List, ℕ, Result, Ok, Err}
use Rattle.disk_trait.specs.Device.{Device, Left}
use Rattle.media_rows.specs.Media.{Archive}
use Rattle.disk_trait.specs.Forms.{form_in_use}
use Rattle.store_migration.specs.Migration.{HasArchiveBy, HasEither, IsMigrated, IsTooFull}
use Rattle.store_migration.specs.declared.fault.MigrateFault.{MigrateFault}
use Rattle.store_migration.specs.declared.fault.MigrateFault.TheVariants as faults
use Rattle.store_migration.specs.declared.migration.Migrated as migration
use Rattle.tams_outcomes.specs.Statuses.{exit_of}
use Rattle.tams_outcomes.specs.Touching.{IsDoneOrRefused, IsSettled, NoneRose, Untouched}
use Rattle.tams_outcomes.specs.declared.outcome.RunOutcome.{RunOutcome}
use Rattle.tams_outcomes.specs.declared.outcome.RunOutcome.TheVariants.{Migrated, AlreadyMigrated, NotStore, TooSmall, Damaged, DiskFault, NoMemory}
use Rattle.store_commands.specs.Opening.{DamageFound, NoStoreFound, StandsForOne}

-- the file stands for a state in the form in use, and nothing was touched
abbrev pub FormInUseFound : Device → Device → Type 0
FormInUseFound old new = (old.shows ≡ true → StandsForOne old.seen) × Untouched old new

-- the file stands for a state in form 1 whose rows have no room in the form in use, and nothing was
-- touched
abbrev pub NoRoomFound : Device → Device → Type 0
NoRoomFound old new = (old.shows ≡ true → IsTooFull old.seen) × Untouched old new

-- Each outcome has its cause: the store was migrated, is of the form in use, or has no room for its
-- rows; the file is none, or is damaged; the disk failed, or there was no memory.
abbrev pub MigrateCause : Device → Device → RunOutcome → Type 0
MigrateCause old new (Migrated objects rows) =
    old.shows ≡ true → IsMigrated old.seen new.seen record { objects = objects; rows = rows }
MigrateCause old new AlreadyMigrated = FormInUseFound old new
MigrateCause old new NotStore = NoStoreFound old new
MigrateCause old new (Damaged at) = DamageFound old new at
MigrateCause old new TooSmall = NoRoomFound old new
MigrateCause old new DiskFault = Unit {0}
MigrateCause old new NoMemory = Untouched old new
MigrateCause old new _ = ⊥

-- What a crash at each moment leaves of an honest device with nothing pending: the one archive for
-- which its file stood, by a half of either form. Once it is done nothing is pending.
pub record MigrateMoments (old new : Device) (o : RunOutcome) : Type 0 where
  pub each : old.honest ≡ true → old.shows ≡ true → IsSettled old
      → (archive : Archive) → HasEither old.seen archive
      → (p : Left) → new.left_since old.moment p → HasEither p.image archive
  pub settled : old.honest ≡ true → IsSettled old → exit_of o ≡ 0 → IsSettled new

-- what an image is that `migrate` refuses: it stands for no archive, or for one of form 1 without
-- room
abbrev pub RefusesMigrate : List ℕ → Type 0
RefusesMigrate image = ((archive : Archive) → HasEither image archive → ⊥) ⊎ IsTooFull image

-- The ends of `migrate`: each outcome has its cause, which fixes the numbers of its line; at each
-- moment a crash leaves the archive for which the file stood; at exit 0 the file stands for it by a
-- half of the form in use; where no call failed it is done, or refused by its cause. It waits for
-- no peer.
pub record MigrateEnds (old new : Device) (o : RunOutcome) : Type 0 where
  pub causes : MigrateCause old new o
  pub moments : MigrateMoments old new o
  pub exit : exit_of o ≡ 0 → old.shows ≡ true → (archive : Archive) → HasEither old.seen archive
      → HasArchiveBy form_in_use new.seen archive
  pub completeness : NoneRose old new → IsDoneOrRefused o
  pub link : new.link ≡ old.link

-- the outcome of what migrating a store answers
abbrev pub migrated_outcome : Result migration.Migrated MigrateFault → RunOutcome
migrated_outcome (Ok migrated) = Migrated migrated.objects migrated.rows
migrated_outcome (Err faults.NotStore) = NotStore
migrated_outcome (Err (faults.Damaged at)) = Damaged at
migrated_outcome (Err faults.NotOld) = AlreadyMigrated
migrated_outcome (Err faults.Full) = TooSmall
migrated_outcome (Err faults.Disk) = DiskFault
migrated_outcome (Err faults.Memory) = NoMemory
