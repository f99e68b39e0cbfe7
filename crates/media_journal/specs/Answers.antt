-- What the calls of the journal answer.
use Rattle.std.specs.Prelude.{Bool, true, false, Result, Err}
use Rattle.media_journal.specs.declared.fault.JournalFault.{JournalFault}
use Rattle.media_journal.specs.declared.fault.JournalFault.TheVariants.{Disk, Memory}
use Rattle.media_journal.specs.declared.fault.HalfFault.{HalfFault}
use Rattle.media_journal.specs.declared.fault.HalfFault.TheVariants as reading

-- no call of the device failed
abbrev pub not_disk : {T : Type 0} → Result T JournalFault → Bool
not_disk (Err Disk) = false
not_disk _ = true

-- the same of reading bytes
abbrev pub read_ok : {T : Type 0} → Result T HalfFault → Bool
read_ok (Err reading.Disk) = false
read_ok _ = true

-- a fault of reading bytes as one of opening a journal
abbrev pub as_journal_fault : HalfFault → JournalFault
as_journal_fault reading.Disk = Disk
as_journal_fault reading.Memory = Memory
