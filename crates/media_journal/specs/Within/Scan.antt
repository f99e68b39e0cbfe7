-- What a scan of a half finds, from one place on.
use Rattle.std.specs.Prelude.{◌≡◌, ◌≢◌, ◌⊎◌, ◌<◌, ◌+◌, ◌*◌, ◌/◌, ◌^◌, ℕ, Bool, true, false, List, length, Option, Some, None, Result, Ok, Err}
use Rattle.disk_trait.specs.Forms.{IsForm}
use Rattle.media_journal.specs.declared.header.Header.{Header}
use Rattle.media_journal.specs.declared.record.Record.{Record}
use Rattle.media_journal.specs.declared.scan.AtPlace.{AtPlace}
use Rattle.media_journal.specs.declared.scan.AtPlace.TheVariants.{Closed, Torn, Whole}
use Rattle.media_journal.specs.declared.fault.JournalFault.{JournalFault}
use Rattle.media_journal.specs.declared.fault.JournalFault.TheVariants.{NotStore, Damaged, OldForm, Disk, Memory}
use Rattle.media_journal.specs.declared.scan.Half.{Half}
use Rattle.media_journal.specs.File.{IsClosedGate, IsTornAt, IsRecordAt, AreRecords, HasHalf, HasTornHalf, HasOtherForm, HasLongRows, IsHeader, AreSizes, active_start, mark}
use Rattle.media_journal.specs.Opening.{IsStore}

-- what stands at this place of a half
abbrev pub FoundAt : List ℕ → ℕ → ℕ → AtPlace → Type 0
FoundAt image at end Closed = IsClosedGate image at
FoundAt image at end Torn = IsTornAt image at end
FoundAt image at end (Whole payload) = IsRecordAt image at payload

-- a gate fits the half behind the record that was found
abbrev pub EndsBefore : ℕ → ℕ → AtPlace → Type 0
EndsBefore at end Closed = Unit {0}
EndsBefore at end Torn = Unit {0}
EndsBefore at end (Whole payload) = at + (5 + length payload) < end

-- the place where a chain of records ends: a closed gate, or a torn record
abbrev pub EndsAt : List ℕ → ℕ → ℕ → Bool → Type 0
EndsAt image at end true = IsTornAt image at end
EndsAt image at end false = IsClosedGate image at

-- the records of a half from one place on, up to the place where they end
pub record IsChain (image : List ℕ) (from end gate : ℕ) (torn : Bool)
    (records : List Record) : Type 0 where
  pub chain : AreRecords image from records gate
  pub within : gate < end
  pub ends : EndsAt image gate end torn

-- what was found between these places, where the records ended at a torn record or at a closed gate
abbrev pub HalfFound : List ℕ → ℕ → ℕ → ℕ → ℕ → List ℕ → List Record → Bool → Type 0
HalfFound image start end gate form rows records true =
    HasTornHalf image start end gate form rows records
HalfFound image start end gate form rows records false =
    HasHalf image start end gate form rows records

-- the form that a half's first eight bytes say as one number, if they say one
abbrev pub SaysForm : ℕ → Option ℕ → Type 0
SaysForm number None = (form : ℕ) → IsForm form → number / 2 ^ 56 ≢ mark form
SaysForm number (Some form) = IsForm form × (number / 2 ^ 56 ≡ mark form)

-- what is read of a half
abbrev pub HalfAnswer : List ℕ → ℕ → ℕ → Result Half JournalFault → Type 0
HalfAnswer image start end (Ok half) =
    HalfFound image start end half.chain.gate half.form half.rows half.chain.records
    half.chain.torn
HalfAnswer image start end (Err NotStore) = ⊥
HalfAnswer image start end (Err (Damaged at)) =
    (at ≡ start) × (HasOtherForm image start ⊎ HasLongRows image start end)
HalfAnswer image start end (Err OldForm) = ⊥
HalfAnswer image start end (Err Disk) = Unit {0}
HalfAnswer image start end (Err Memory) = Unit {0}

-- what was read of an image: the header of a store, and its active half
pub record IsReadHalf (image : List ℕ) (h : Header) (start : ℕ) (half : Half) : Type 0 where
  pub store : IsStore image
  pub header : IsHeader image h
  pub sizes : AreSizes h (length image)
  pub start_is : start ≡ active_start image h.half
  pub found : HalfFound image start (start + 4096 * h.half) half.chain.gate half.form half.rows
      half.chain.records half.chain.torn
