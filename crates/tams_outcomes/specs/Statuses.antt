-- The program's statuses, and the status of each outcome.
use Rattle.std.specs.Prelude.{ℕ, Bool, true, false}
use Rattle.tams_outcomes.specs.declared.status.Status.{Status}
use Rattle.tams_outcomes.specs.declared.status.Status.TheVariants as status
use Rattle.tams_outcomes.specs.declared.outcome.RunOutcome.{RunOutcome}
use Rattle.tams_outcomes.specs.declared.outcome.RunOutcome.TheVariants.{Formatted, Checked, Migrated, AlreadyMigrated, Worked, Delivered, Served, Playlist, NoPlaylist, Generated, Cut, BadWords, NotStore, AlreadyStore, TooSmall, Damaged, DamagedObject, OldForm, DiskFault, NoMemory, LinkFault}

-- the number of each status
abbrev pub number_of : Status → ℕ
number_of status.Done = 0
number_of status.BadWords = 1
number_of status.Refused = 2
number_of status.DiskFault = 3
number_of status.NoMemory = 4
number_of status.LinkFault = 5
number_of status.Cut = 6
number_of status.NamedRefusal = 7

-- the status of each outcome
abbrev pub status_of : RunOutcome → Status
status_of (Formatted blocks half media) = status.Done
status_of (Checked counts) = status.Done
status_of (Migrated objects rows) = status.Done
status_of AlreadyMigrated = status.Done
status_of (Worked turns) = status.Done
status_of (Delivered delivered waiting full) = status.Done
status_of (Served requests changes skipped) = status.Done
status_of (Playlist objects) = status.Done
status_of (NoPlaylist refusal) = status.NamedRefusal
status_of (Generated run) = status.Done
status_of BadWords = status.BadWords
status_of NotStore = status.Refused
status_of AlreadyStore = status.Refused
status_of TooSmall = status.Refused
status_of (Damaged at) = status.Refused
status_of (DamagedObject damaged) = status.Refused
status_of OldForm = status.Refused
status_of DiskFault = status.DiskFault
status_of NoMemory = status.NoMemory
status_of LinkFault = status.LinkFault
status_of Cut = status.Cut

-- the number with which the program exits
abbrev pub exit_of : RunOutcome → ℕ
exit_of o = number_of (status_of o)

-- no call of the disk failed
abbrev pub no_disk_fault : RunOutcome → Bool
no_disk_fault DiskFault = false
no_disk_fault _ = true
