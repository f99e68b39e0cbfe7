-- What opening a store answers over an image of its file. Our own format.
use Rattle.std.specs.Prelude.{◌≡◌, ◌≢◌, ◌+◌, ◌-◌, ◌*◌, ℕ, List, ◌∷◌, ◌++◌, Result, Ok, Err}
use Rattle.disk_trait.specs.Forms.{form_in_use}
use Rattle.media_rows.specs.declared.row.Row.{Row}
use Rattle.media_rows.specs.Library.{Library}
use Rattle.media_rows.specs.Media.{Archive}
use Rattle.snapshot_rows.specs.Texts.{IsDamagedAt, SpellsRows}
use Rattle.media_journal.specs.declared.header.Header.{Header}
use Rattle.media_journal.specs.declared.record.Record.{Record}
use Rattle.media_journal.specs.declared.fault.JournalFault.{JournalFault}
use Rattle.media_journal.specs.declared.fault.JournalFault.TheVariants.{NotStore, Damaged, OldForm, Disk, Memory}
use Rattle.media_journal.specs.File.{Reads, ReadsTorn, active_start}
use Rattle.media_journal.specs.Journal.{Contents, Gives, Position}
use Rattle.media_journal.specs.Opening.{DamagedAt, IsStore}
use Rattle.store_states.specs.Kept.{StoreView}
use Rattle.store_states.specs.States.{Folds, IsSnapshot, Makes, StandsBy, StepOf, StoreState, blocks_before, held_in, library_in, media_start}
use Rattle.store_opening.specs.declared.opening.OpenedStore.{OpenedStore}
use Rattle.store_opening.specs.declared.opening.ReadStore.{ReadStore}

-- ---- what is kept of an image

-- what a half of a form holds
abbrev pub contents_in : ℕ → Header → List ℕ → List Record → Contents
contents_in form header text records =
    record { header = header; form = form; rows = text; records = records }

-- The image gives the journal, in a half of a form, rows and records that make the library.
pub record IsKeptBy (form : ℕ) (image : List ℕ) (kept : StoreView) : Type 0 where
  pub header : Header
  pub text : List ℕ
  pub records : List Record
  pub gives : Gives image kept.journal (contents_in form header text records)
  pub makes : Makes form header text records kept.library

-- the same in a half of the form in use
abbrev pub IsKept : List ℕ → StoreView → Type 0
IsKept = IsKeptBy form_in_use

-- what a store keeps that was opened
abbrev pub view_of_opened : OpenedStore → StoreView
view_of_opened store = record { library = store.core.library; journal = store.journal }

-- what a store keeps that was read
abbrev pub view_of_read : ReadStore → StoreView
view_of_read store = record { library = store.core.library; journal = store.journal }

-- the library has the media blocks of its file: all but those before them
abbrev pub HasItsBlocks : Library → Position → Type 0
HasItsBlocks library journal = library.blocks ≡ journal.blocks - blocks_before journal.half

-- the bytes in the image of the objects of what is kept
abbrev pub bytes_in_image : List ℕ → StoreView → List (List ℕ)
bytes_in_image image kept = held_in image (media_start kept.journal.half) kept.library.objects

-- the archive of what is kept of an image, by a half of a form
abbrev pub archive_read : ℕ → List ℕ → StoreView → Archive
archive_read form image kept =
    let area = media_start kept.journal.half in
    let library = library_in form image area kept.library in
    record { library = library; held = held_in image area library.objects }

-- the state for which an image stands of which this is kept, by a half of a form
abbrev pub state_read : ℕ → List ℕ → StoreView → StoreState
state_read form image kept = record {
  archive = archive_read form image kept;
  room = kept.journal.room;
  half = 4096 * kept.journal.half;
}

-- ---- where an image is damaged

-- The image has this header, and its active half this form, these rows, and these whole records: a
-- closed gate stands behind them, or a torn record.
pub data ReadsHalf (image : List ℕ) (header : Header) (form : ℕ) (text : List ℕ)
    (records : List Record) : Type 0 where
  Closed : (gate : ℕ) → Reads image header gate form text records
      → ReadsHalf image header form text records
  Torn : (at : ℕ) → ReadsTorn image header at form text records
      → ReadsHalf image header form text records

-- The place is that of the first row that is no spelling in the half's form, or that isn't after
-- the row before it.
pub record HasDamagedRow (image : List ℕ) (at : ℕ) : Type 0 where
  pub header : Header
  pub form : ℕ
  pub text : List ℕ
  pub records : List Record
  pub reads : ReadsHalf image header form text records
  pub row : ℕ
  pub damaged : IsDamagedAt form text row
  pub place : at ≡ active_start image header.half + 8 + row

-- The rows are spelled in their order, but aren't those of a good library. The place is the start
-- of their half.
pub record HasOtherRows (image : List ℕ) (at : ℕ) : Type 0 where
  pub header : Header
  pub form : ℕ
  pub text : List ℕ
  pub records : List Record
  pub reads : ReadsHalf image header form text records
  pub rows : List Row
  pub spells : SpellsRows form text rows
  pub none : (library : Library) → IsSnapshot form header text library → ⊥
  pub place : at ≡ active_start image header.half

-- a payload makes nothing of a library: it is no change of a form, or its change doesn't apply
abbrev pub IsNoStep : ℕ → List ℕ → Library → Type 0
IsNoStep form payload from = (next : Library) → StepOf form payload from next → ⊥

-- Records of a form before one make a library, of which that one makes nothing. The place is its
-- gate's.
pub record IsRefusedAt (form : ℕ) (records : List Record) (first : Library) (at : ℕ) : Type 0 where
  pub front : List Record
  pub refused : Record
  pub behind : List Record
  pub parts : records ≡ front ++ refused ∷ behind
  pub before : Library
  pub folds : Folds form front first before
  pub none : IsNoStep form refused.payload before
  pub place : at ≡ refused.offset

-- The rows are those of a good library, and the place is that of a record's gate which is the first
-- that makes nothing.
pub record HasRefusedRecord (image : List ℕ) (at : ℕ) : Type 0 where
  pub header : Header
  pub form : ℕ
  pub text : List ℕ
  pub records : List Record
  pub reads : ReadsHalf image header form text records
  pub first : Library
  pub snapshot : IsSnapshot form header text first
  pub refused : IsRefusedAt form records first at

-- Rows and whole records make a library. The place is that of the torn record's gate behind them.
pub record HasTornRecord (image : List ℕ) (at : ℕ) : Type 0 where
  pub header : Header
  pub form : ℕ
  pub text : List ℕ
  pub records : List Record
  pub reads : ReadsTorn image header at form text records
  pub library : Library
  pub makes : Makes form header text records library

-- The offset at which the image of a store is damaged, from its start.
pub data StoreDamagedAt (image : List ℕ) (at : ℕ) : Type 0 where
  InJournal : DamagedAt image at → StoreDamagedAt image at
  InRow : HasDamagedRow image at → StoreDamagedAt image at
  InRows : HasOtherRows image at → StoreDamagedAt image at
  InRecord : HasRefusedRecord image at → StoreDamagedAt image at
  InTorn : HasTornRecord image at → StoreDamagedAt image at

-- ---- where an image is of another form

-- the image stands for a state by a half of a form that isn't in use, which is form 1
pub record StandsByOther (image : List ℕ) : Type 0 where
  pub form : ℕ
  pub other : form ≢ form_in_use
  pub state : StoreState
  pub stands : StandsBy form image state

-- ---- what is answered

-- What opening answers over an image: the library and the journal that it has, `NotStore` where it
-- is no store, `Damaged` with the offset at which it is damaged, and `OldForm` where it stands for
-- a state by a half of a form that isn't in use.
abbrev pub StoreAnswer : List ℕ → Result OpenedStore JournalFault → Type 0
StoreAnswer image (Ok store) = IsKept image (view_of_opened store)
StoreAnswer image (Err NotStore) = ¬ (IsStore image)
StoreAnswer image (Err (Damaged at)) = IsStore image × StoreDamagedAt image at
StoreAnswer image (Err OldForm) = StandsByOther image
StoreAnswer image (Err Disk) = Unit {0}
StoreAnswer image (Err Memory) = Unit {0}

-- What reading answers over an image, by a half of whatever form.
abbrev pub ReadAnswer : List ℕ → Result ReadStore JournalFault → Type 0
ReadAnswer image (Ok store) = IsKeptBy store.form image (view_of_read store)
ReadAnswer image (Err NotStore) = ¬ (IsStore image)
ReadAnswer image (Err (Damaged at)) = IsStore image × StoreDamagedAt image at
ReadAnswer image (Err OldForm) = ⊥
ReadAnswer image (Err Disk) = Unit {0}
ReadAnswer image (Err Memory) = Unit {0}
