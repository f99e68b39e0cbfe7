-- What migrating a store answers over an image of its file, and what a crash at a moment of it may
-- leave. Our own rules.
use Rattle.std.specs.Prelude.{◌≡◌, ◌⊎◌, ◌<◌, ◌≤◌, ◌+◌, ℕ, Bool, true, false, List, length, Result, Ok, Err}
use Rattle.disk_trait.specs.Device.{Left}
use Rattle.disk_trait.specs.Forms.{form_in_use}
use Rattle.media_rows.specs.Media.{Archive, HasDigests}
use Rattle.change_codec.specs.Fitting.{snapshot_size}
use Rattle.media_journal.specs.Opening.{IsStore}
use Rattle.store_core.specs.Prepared.{stored_objects}
use Rattle.store_opening.specs.Opening.{StoreDamagedAt}
use Rattle.store_states.specs.States.{StandsBy, StandsFor, StoreState}
use Rattle.store_migration.specs.declared.fault.MigrateFault.{MigrateFault}
use Rattle.store_migration.specs.declared.fault.MigrateFault.TheVariants.{NotStore, Damaged, NotOld, Full, Disk, Memory}
use Rattle.store_migration.specs.declared.migration.Migrated.{Migrated}

-- the image stands for an archive by a half of a form
pub record HasArchiveBy (form : ℕ) (image : List ℕ) (archive : Archive) : Type 0 where
  pub state : StoreState
  pub stands : StandsBy form image state
  pub same : state.archive ≡ archive

-- it stands for it by a half of form 1 or of the form in use
abbrev pub HasEither : List ℕ → Archive → Type 0
HasEither image archive = HasArchiveBy 1 image archive ⊎ HasArchiveBy form_in_use image archive

-- ---- what a crash leaves

-- so far the image stands for an archive, by a half of either form, and nothing was told
pub record Migrates (archive : Archive) (old new : Left) : Type 0 where
  pub told : new.told ≡ old.told
  pub image : HasEither new.image archive

-- it stands for it by a half of the form in use
pub record HasMigrated (archive : Archive) (old new : Left) : Type 0 where
  pub told : new.told ≡ old.told
  pub image : HasArchiveBy form_in_use new.image archive

-- how a migration ends, by whether it has succeeded
abbrev pub MigrationEnds : Bool → Archive → Left → Left → Type 0
MigrationEnds true = HasMigrated
MigrationEnds false = Migrates

-- ---- what is answered

-- The image stood for a state by a half of form 1, and the other one stands for its archive by one
-- of the form in use, where each stored object has the digest of its bytes. So many objects are
-- stored, and so long are the rows, which have room in a half.
pub record IsMigrated (image other : List ℕ) (migrated : Migrated) : Type 0 where
  pub from : StoreState
  pub stands : StandsBy 1 image from
  pub archive : HasArchiveBy form_in_use other from.archive
  pub digests : HasDigests from.archive
  pub objects : migrated.objects ≡ length (stored_objects from.archive.library.objects)
  pub rows : migrated.rows ≡ snapshot_size from.archive.library
  pub room : migrated.rows + 9 ≤ from.half

-- the image stands for a state by a half of form 1, whose rows in the form in use have no room in a
-- half
pub record IsTooFull (image : List ℕ) : Type 0 where
  pub from : StoreState
  pub stands : StandsBy 1 image from
  pub full : from.half < snapshot_size from.archive.library + 9

-- What migrating answers over an image, where this one is left.
abbrev pub MigrateAnswer : List ℕ → List ℕ → Result Migrated MigrateFault → Type 0
MigrateAnswer image other (Ok migrated) = IsMigrated image other migrated
MigrateAnswer image other (Err NotStore) = ¬ (IsStore image)
MigrateAnswer image other (Err (Damaged at)) = IsStore image × StoreDamagedAt image at
MigrateAnswer image other (Err NotOld) = (s : StoreState) × StandsFor image s
MigrateAnswer image other (Err Full) = IsTooFull image
MigrateAnswer image other (Err Disk) = Unit {0}
MigrateAnswer image other (Err Memory) = Unit {0}
