-- What opening a journal answers.
use Rattle.std.specs.Prelude.{◌≡◌, ◌≤◌, ◌+◌, ◌*◌, ◌⊎◌, ℕ, List, length, Option, Some, None, Result, Ok, Err}
use Rattle.media_journal.specs.declared.header.Header.{Header}
use Rattle.media_journal.specs.declared.open.Opened.{Opened}
use Rattle.media_journal.specs.declared.fault.JournalFault.{JournalFault}
use Rattle.media_journal.specs.declared.fault.JournalFault.TheVariants.{NotStore, Damaged, OldForm, Disk, Memory}
use Rattle.media_journal.specs.File.{HasOpenHeader, IsHeader, AreSizes, HasOtherForm, HasLongRows, ReadsTorn, active_start}
use Rattle.media_journal.specs.Journal.{Contents, Gives, IsWhole, Position}

-- a file of at least five blocks whose header is an open one
pub record IsStore (image : List ℕ) : Type 0 where
  pub size : 20480 ≤ length image
  pub header : HasOpenHeader image

-- the header's numbers are none that the file may have
pub record HasWrongSizes (image : List ℕ) : Type 0 where
  pub header : Header
  pub is : IsHeader image header
  pub wrong : ¬ (AreSizes header (length image))

-- the numbers are right, and the active half, which begins here, is of no form, or says a length of
-- its rows that it hasn't room for
pub record HasWrongHalf (image : List ℕ) (start : ℕ) : Type 0 where
  pub header : Header
  pub is : IsHeader image header
  pub sizes : AreSizes header (length image)
  pub active : start ≡ active_start image header.half
  pub wrong : HasOtherForm image start ⊎ HasLongRows image start (start + 4096 * header.half)

-- The offset at which the image of a store is damaged, as far as its records' payloads and its rows
-- aren't looked into: that of the header's numbers, or that of the active half.
abbrev pub DamagedAt : List ℕ → ℕ → Type 0
DamagedAt image at = ((at ≡ 8) × HasWrongSizes image) ⊎ HasWrongHalf image at

-- the numbers of the header that was read
abbrev pub header_of : Opened → Header
header_of o = record { blocks = o.blocks; half = o.half; id = o.id }

-- the header, the form, the rows and the records that were read
abbrev pub contents_of : Opened → Contents
contents_of o = record { header = header_of o; form = o.form; rows = o.rows; records = o.found }

-- The image reads up to a torn record, and has the rows and records that were opened before it. The
-- journal ends there and has no room.
pub record OpensTorn (image : List ℕ) (o : Opened) (at : ℕ) : Type 0 where
  pub reads : ReadsTorn image (header_of o) at o.form o.rows o.found
  pub gate : o.journal.gate ≡ at
  pub room : o.journal.room ≡ 0

-- what the image reads as: all that was opened, or what was opened before a torn record
abbrev pub OpenedHalf : List ℕ → Opened → Option ℕ → Type 0
OpenedHalf image o None = Gives image o.journal (contents_of o)
OpenedHalf image o (Some at) = OpensTorn image o at

-- where no record was torn, the journal's room goes to the end of its half
abbrev pub WholeUnlessTorn : Option ℕ → Position → Type 0
WholeUnlessTorn None p = IsWhole p
WholeUnlessTorn (Some at) p = Unit {0}

-- what was opened of the image of a store
pub record IsOpened (image : List ℕ) (o : Opened) : Type 0 where
  pub store : IsStore image
  pub header : IsHeader image (header_of o)
  pub sizes : AreSizes (header_of o) (length image)
  pub blocks : o.journal.blocks ≡ o.blocks
  pub half_blocks : o.journal.half ≡ o.half
  pub start : o.journal.start ≡ active_start image o.half
  pub rows_at : o.rows_at ≡ active_start image o.half + 8
  pub half : OpenedHalf image o o.torn

-- What opening answers over an image: `NotStore` where it is no store, `Damaged` with the offset at
-- which it is damaged, and otherwise what was opened. Which form is to be written isn't asked here.
abbrev pub OpenAnswer : List ℕ → Result Opened JournalFault → Type 0
OpenAnswer image (Ok o) = IsOpened image o
OpenAnswer image (Err NotStore) = ¬ (IsStore image)
OpenAnswer image (Err (Damaged at)) = IsStore image × DamagedAt image at
OpenAnswer image (Err OldForm) = ⊥
OpenAnswer image (Err Disk) = Unit {0}
OpenAnswer image (Err Memory) = Unit {0}
