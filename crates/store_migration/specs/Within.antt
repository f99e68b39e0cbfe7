-- Words that the calls of this crate cite beside those of migration.
use Rattle.std.specs.Prelude.{◌≡◌, length, ℕ, Bool, true, false, Result, Ok, Err}
use Rattle.media_rows.specs.declared.object.ObjectState.{ObjectState}
use Rattle.media_rows.specs.declared.object.ObjectState.TheVariants.{Allocated, Stored}
use Rattle.media_rows.specs.Library.{Library}
use Rattle.media_rows.specs.Snapshot.{rows_of}
use Rattle.disk_trait.specs.Forms.{form_in_use}
use Rattle.snapshot_rows.specs.Texts.{SpellsRows}
use Rattle.store_core.specs.Prepared.{stored_objects}
use Rattle.store_migration.specs.declared.digests.LibraryRows.{LibraryRows}
use Rattle.media_journal.specs.declared.fault.AppendFault.{AppendFault}
use Rattle.media_journal.specs.declared.fault.AppendFault.TheVariants as writing
use Rattle.media_journal.specs.declared.fault.JournalFault.{JournalFault}
use Rattle.media_journal.specs.declared.fault.JournalFault.TheVariants as opening
use Rattle.media_journal.specs.Journal.{Position}
use Rattle.object_blobs.specs.Extents.{IsOnDevice}
use Rattle.store_states.specs.Kept.{StoreView}
use Rattle.store_migration.specs.declared.fault.MigrateFault.{MigrateFault}
use Rattle.store_migration.specs.declared.fault.MigrateFault.TheVariants.{NotStore, Damaged, NotOld, Full, Disk, Memory}
use Rattle.store_migration.specs.declared.fault.RowsFault.{RowsFault}
use Rattle.store_migration.specs.declared.fault.RowsFault.TheVariants as rows

-- such a fault as one of migrating
abbrev pub opening_fault : JournalFault → MigrateFault
opening_fault opening.NotStore = NotStore
opening_fault (opening.Damaged at) = Damaged at
opening_fault opening.OldForm = NotOld
opening_fault opening.Disk = Disk
opening_fault opening.Memory = Memory

abbrev pub writing_fault : AppendFault → MigrateFault
writing_fault writing.Full = Full
writing_fault writing.Disk = Disk

abbrev pub rows_fault : RowsFault → MigrateFault
rows_fault rows.Disk = Disk
rows_fault rows.Memory = Memory

-- no call of the disk failed
abbrev pub not_disk : {X : Type 0} → Result X MigrateFault → Bool
not_disk (Err Disk) = false
not_disk other = true

abbrev pub rows_read : {X : Type 0} → Result X RowsFault → Bool
rows_read (Err rows.Disk) = false
rows_read other = true

-- the file refuses it, or there was no memory: nothing was written
abbrev pub is_refused : {X : Type 0} → Result X MigrateFault → Bool
is_refused (Ok x) = false
is_refused (Err Disk) = false
is_refused (Err other) = true

-- what is kept of a store that was read
abbrev pub view_of : Library → Position → StoreView
view_of library journal = record { library = library; journal = journal }

-- the bytes of an object in this state, if it has some, lie on a device of so many bytes
abbrev pub IsThere : ℕ → ObjectState → ℕ → Type 0
IsThere area Allocated size = Unit {0}
IsThere area (Stored start length digest) size =
    IsOnDevice area (record { start = start; length = length }) size

-- rows of a library in the form in use: so many of its objects are stored, and this is their text
pub record AreRowsOf (library : Library) (rows : LibraryRows) : Type 0 where
  pub stored : rows.stored ≡ length (stored_objects library.objects)
  pub spells : SpellsRows form_in_use rows.text (rows_of library)
