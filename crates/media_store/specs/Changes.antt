-- What a change makes of a store and of its device. Our own rules.
use Rattle.std.specs.Prelude.{◌≡◌, ◌+◌, ◌*◌, ℕ, Bool, true, false, List, [], Option, Some, None, IsFalse, if◌then◌else◌}
use Rattle.media_rows.specs.declared.change.Change.{Change}
use Rattle.media_rows.specs.declared.change.Change.TheVariants as changes
use Rattle.media_rows.specs.declared.command.Command.{Command}
use Rattle.media_rows.specs.declared.command.Command.TheVariants as commands
use Rattle.media_rows.specs.Answer.{Outcome, answer}
use Rattle.media_rows.specs.Media.{Archive, archive_after}
use Rattle.disk_trait.specs.Calls.{Elapses}
use Rattle.disk_trait.specs.Device.{Device, Left, may_leave}
use Rattle.change_codec.specs.Fitting.{State, change_size, fits_room, snapshot_size, with_record}
use Rattle.store_states.specs.Fitting.{fitted}
use Rattle.store_states.specs.Held.{StandsThere}
use Rattle.store_states.specs.Kept.{AgreesWith, StoreView}
use Rattle.store_states.specs.States.{media_start}
use Rattle.store_commits.specs.Carrying.{ReplaceEnds, Replaces, kept_written, written_bytes}
use Rattle.store_writes.specs.Writes.{Keeps}
use Rattle.store_plans.specs.declared.outcome.Planned.{Planned}
use Rattle.store_plans.specs.Plans.{MakesStep, PlanFits}
use Rattle.media_store.specs.Stores.{archive_of, journal_of}

-- whether a change, if there is one, stores an object
abbrev pub stores : Option Change → Bool
stores None = false
stores (Some (changes.Store moment object start size digest)) = true
stores (Some other) = false

-- A plan can be committed to a store: it makes a change of the store's own library, in the journal
-- as it stands, or leaves that library as it is, and its record has the room that it needs. It
-- stores no object: the bytes of one go by a put.
pub record CanCommit (kept : StoreView) (planned : Planned) : Type 0 where
  pub change : Option Change
  pub step : MakesStep (journal_of kept) change planned
  pub fits : PlanFits kept.journal planned
  pub bare : IsFalse (stores change)

-- what is kept once a plan was written, by its record
abbrev pub kept_with : StoreView → Planned → Option (List ℕ) → StoreView
kept_with kept planned None = kept
kept_with kept planned (Some payload) = kept_written kept planned.rows planned.next.library payload

-- what is kept once a plan was written
abbrev pub kept_by : StoreView → Planned → StoreView
kept_by kept planned = kept_with kept planned planned.frame

-- how many bytes of rows and of a record are handed to the disk
abbrev pub bytes_with : Planned → Option (List ℕ) → ℕ
bytes_with planned None = 0
bytes_with planned (Some payload) = written_bytes planned.rows payload

-- the bytes that a plan hands to the disk
abbrev pub bytes_by : Planned → ℕ
bytes_by planned = bytes_with planned planned.frame

-- ---- the file

-- The file stands for what is kept: it agrees with the device, with some bytes of the objects.
pub record FileStands (d : Device) (kept : StoreView) : Type 0 where
  pub held : List (List ℕ)
  pub agrees : AgreesWith d kept held

-- ---- changes

-- Each image that a crash now may leave has the bytes that come for the storing of an object at the
-- object's place. No other change needs any.
abbrev pub CameThere : Device → StoreView → Change → List ℕ → Type 0
CameThere d kept change came = (left : Left) → may_leave d left
    → StandsThere left.image (media_start kept.journal.half) change came

-- the archive of a store after a change
abbrev pub archive_next : StoreView → List (List ℕ) → Change → List ℕ → Archive
archive_next kept held change came = archive_after change came (archive_of kept held)

-- The call makes a change of a store, for which these bytes came, or fails: at each moment of it
-- each image that a crash leaves stands for the archive before the change or for the one after it.
-- Where it has succeeded, the one after it alone is left, and what is kept agrees with the device.
pub record ChangesStore (ok : Bool) (change : Change) (came : List ℕ) (kept next : StoreView)
    (held : List (List ℕ)) (old new : Device) : Type 0 where
  pub moments : Elapses
      (Replaces (4096 * kept.journal.half) (archive_of kept held)
      (archive_next kept held change came))
      (ReplaceEnds ok (4096 * kept.journal.half) (archive_of kept held)
      (archive_next kept held change came)) old new
  pub agrees : ok ≡ true → AgreesWith new next (archive_next kept held change came).held

-- what is kept after a change: the library, the room and the sizes
pub record IsAfterChange (kept : StoreView) (change : Change) (next : StoreView) : Type 0 where
  pub journal : journal_of next ≡ with_record (journal_of kept) change
  pub blocks : next.journal.blocks ≡ kept.journal.blocks

-- what is kept after a change, if there is one
abbrev pub IsNextIf : StoreView → Option Change → StoreView → Type 0
IsNextIf kept None next = next ≡ kept
IsNextIf kept (Some change) next = IsAfterChange kept change next

-- The call makes a change that needs no bytes, if there is one, or fails within it. Otherwise what
-- is kept stays.
abbrev pub MakesIf : Bool → Option Change → StoreView → StoreView → List (List ℕ) → Device → Device
    → Type 0
MakesIf ok None kept next held old new = Keeps kept held old new
MakesIf ok (Some change) kept next held old new = ChangesStore ok change [] kept next held old new

-- The bytes that a change hands to the disk: those of its record and 6 more, and where that doesn't
-- fit the room, first the rows of a checkpoint and 10 more.
abbrev pub bytes_of_change : State → Change → ℕ
bytes_of_change journal change =
    (if fits_room journal change then 0 else snapshot_size journal.library + 10)
    + (change_size change + 6)

-- the same of a change, if there is one
abbrev pub bytes_if : State → Option Change → ℕ
bytes_if journal None = 0
bytes_if journal (Some change) = bytes_of_change journal change

-- ---- commands

-- whether a command comes with the bytes of an object, which go by a put
abbrev pub brings_bytes : Command → Bool
brings_bytes (commands.Keep object start size digest) = true
brings_bytes other = false

-- what a command makes of a store at a moment
abbrev pub fitted_outcome : StoreView → Command → ℕ → Outcome
fitted_outcome kept command moment =
    fitted (journal_of kept) (answer kept.library command moment)
