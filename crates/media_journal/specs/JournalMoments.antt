-- What a crash at each moment of an append or of formatting may leave, by what the images give.
use Rattle.std.specs.Prelude.{◌≡◌, ◌+◌, ◌-◌, ◌⊎◌, ℕ, Bool, true, false, List, [], ◌∷◌, ◌++◌, drop, length, slice_index, Result, Ok, Err}
use Rattle.disk_trait.specs.Device.{Device, Left, may_leave}
use Rattle.disk_trait.specs.Calls.{LeavesOnly, Torn, Unchanged, bytes_at}
use Rattle.disk_trait.specs.Forms.{form_in_use}
use Rattle.media_journal.specs.declared.header.Header.{Header}
use Rattle.media_journal.specs.declared.fault.FormatFault.{FormatFault}
use Rattle.media_journal.specs.declared.fault.FormatFault.TheVariants.{AlreadyStore, TooSmall, Disk, Memory}
use Rattle.media_journal.specs.File.{HasOpenHeader, Reads}
use Rattle.media_journal.specs.Journal.{Contents, Position, Gives, after_append}

-- each image that a crash now may leave gives the journal this
pub record EachGives (d : Device) (p : Position) (held : Contents) : Type 0 where
  pub gives : (left : Left) → may_leave d left → Gives left.image p held

-- the contents with one record more, whose gate is the journal's
abbrev pub with_payload : Position → List ℕ → Contents → Contents
with_payload p payload held =
    record held { records = held.records ++ record { offset = p.gate; payload = payload } ∷ [] }

-- the image gives the records as they were, or with this payload as the last one
abbrev pub GivesOneOf : List ℕ → Position → List ℕ → Contents → Type 0
GivesOneOf image p payload held =
    Gives image p held ⊎ Gives image (after_append p (length payload)) (with_payload p payload held)

-- What an append may have done so far: nothing was told, only the bytes of a record at the
-- journal's gate and of the gate behind it may differ, and the image gives the records as they
-- were, or with the payload.
pub record KeepsOrAdds (p : Position) (payload : List ℕ) (held : Contents)
    (old new : Left) : Type 0 where
  pub told : new.told ≡ old.told
  pub elsewhere : Torn p.gate (length payload + 6) old.image new.image
  pub image : GivesOneOf new.image p payload held

-- what an append has done once it has succeeded
pub record AddsRecord (p : Position) (payload : List ℕ) (held : Contents)
    (old new : Left) : Type 0 where
  pub told : new.told ≡ old.told
  pub elsewhere : Torn p.gate (length payload + 6) old.image new.image
  pub image : Gives new.image (after_append p (length payload)) (with_payload p payload held)

-- what an append has done at its end, by whether it has succeeded
abbrev pub AppendEnds : Bool → Position → List ℕ → Contents → Left → Left → Type 0
AppendEnds true = AddsRecord
AppendEnds false = KeepsOrAdds

-- an honest device that shows its bytes, with nothing pending
pub record IsAtRest (d : Device) : Type 0 where
  pub honest : d.honest ≡ true
  pub shows : d.shows ≡ true
  pub settled : LeavesOnly d.seen d

-- the image is the store that was asked for: its header, half A active in the form in use with
-- these rows, and no record
pub record IsNewStore (image : List ℕ) (h : Header) (rows : List ℕ) : Type 0 where
  pub reads : Reads image h (8192 + (8 + length rows)) form_in_use rows []
  pub selector : slice_index image 4096 ≡ 0

-- what formatting may have done so far: nothing was told, and the image is no store or the new one
pub record NoneOrNew (h : Header) (rows : List ℕ) (old new : Left) : Type 0 where
  pub told : new.told ≡ old.told
  pub image : (¬ (HasOpenHeader new.image)) ⊎ IsNewStore new.image h rows

-- what it has done once it has succeeded
pub record MakesStore (h : Header) (rows : List ℕ) (old new : Left) : Type 0 where
  pub told : new.told ≡ old.told
  pub image : IsNewStore new.image h rows

-- what formatting has done at its end, by what it answers
abbrev pub FormattingEnds : Result (Unit {0}) FormatFault → Header → List ℕ → Left → Left → Type 0
FormattingEnds (Ok _) h rows = MakesStore h rows
FormattingEnds (Err AlreadyStore) h rows = Unchanged
FormattingEnds (Err TooSmall) h rows = Unchanged
FormattingEnds (Err Disk) h rows = NoneOrNew h rows
FormattingEnds (Err Memory) h rows = Unchanged

-- The bytes that formatting never writes stay, where a half without a record has so many bytes:
-- those of the header's block behind its gate, those of the selector's block behind its first, and
-- all behind the closed gate of half A, half B and the media blocks among them.
pub record KeepsOthers (size : ℕ) (old new : List ℕ) : Type 0 where
  pub header : bytes_at new 41 (4096 - 41) ≡ bytes_at old 41 (4096 - 41)
  pub selector : bytes_at new (4096 + 1) (4096 - 1) ≡ bytes_at old (4096 + 1) (4096 - 1)
  pub rest : drop (8192 + size) new ≡ drop (8192 + size) old
  pub same_length : length new ≡ length old

-- a step that writes no other bytes than those of a store, and tells nothing
pub record WritesStore (size : ℕ) (old new : Left) : Type 0 where
  pub told : new.told ≡ old.told
  pub image : KeepsOthers size old.image new.image
