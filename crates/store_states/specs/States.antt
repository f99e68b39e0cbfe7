-- The state for which an image of the file stands: its active half has the rows of a good library
-- and records whose changes apply one after another, each stored object's bytes are those at its
-- extent, and its digest is the one that is kept, or in form 1 that of these bytes. Our own format.
use Rattle.std.specs.Prelude.{◌≡◌, ◌+◌, ◌-◌, ◌*◌, ◌==◌, ℕ, List, [], ◌∷◌, map, Some, IsTrue, if◌then◌else◌}
use Rattle.disk_trait.specs.Forms.{form_in_use}
use Rattle.media_rows.specs.declared.change.Change.{Change}
use Rattle.media_rows.specs.declared.object.ObjectRow.{ObjectRow}
use Rattle.media_rows.specs.declared.object.ObjectState.{ObjectState}
use Rattle.media_rows.specs.declared.object.ObjectState.TheVariants.{Allocated, Stored}
use Rattle.media_rows.specs.declared.row.Row.{Row}
use Rattle.media_rows.specs.Apply.{applied}
use Rattle.media_rows.specs.Digests.{digest_of}
use Rattle.media_rows.specs.Good.{is_good}
use Rattle.media_rows.specs.Library.{Library}
use Rattle.media_rows.specs.Media.{Archive}
use Rattle.media_rows.specs.Snapshot.{have_numbers, library_of}
use Rattle.change_codec.specs.Codec.{SpellsChange}
use Rattle.snapshot_rows.specs.Texts.{SpellsRows}
use Rattle.object_blobs.specs.Extents.{extent_bytes}
use Rattle.media_journal.specs.declared.header.Header.{Header}
use Rattle.media_journal.specs.declared.record.Record.{Record}
use Rattle.media_journal.specs.File.{Reads, active_start}

-- ---- the bytes of objects

-- the blocks before the media blocks: the header's, the selector's, and those of two halves
abbrev pub blocks_before : ℕ → ℕ
blocks_before half = 2 * half + 2

-- where the media blocks begin
abbrev pub media_start : ℕ → ℕ
media_start half = 4096 * blocks_before half

-- the bytes of an object in this state, where the media blocks begin at this place: those at its
-- extent, and none where it isn't stored
abbrev pub state_bytes : List ℕ → ℕ → ObjectState → List ℕ
state_bytes image area Allocated = []
state_bytes image area (Stored start size digest) =
    extent_bytes area (record { start = start; length = size }) image

-- the bytes of objects, a list along them
abbrev pub held_in : List ℕ → ℕ → List ObjectRow → List (List ℕ)
held_in image area objects = map (λ row. state_bytes image area row.state) objects

-- ---- the digests of objects

-- the state of an object with the digest of its bytes in an image, where it has bytes
abbrev pub digested_state : List ℕ → ℕ → ObjectState → ObjectState
digested_state image area Allocated = Allocated
digested_state image area (Stored start size digest) =
    Stored start size (Some (digest_of (state_bytes image area (Stored start size digest))))

-- an object with the digest of its bytes in an image
abbrev pub digested_row : List ℕ → ℕ → ObjectRow → ObjectRow
digested_row image area row = record row { state = digested_state image area row.state }

-- objects with the digests of their bytes
abbrev pub digested : List ℕ → ℕ → List ObjectRow → List ObjectRow
digested image area objects = map (digested_row image area) objects

-- The library of a half of a form whose rows and records make this one. Form 1 keeps no digests,
-- so each stored object has that of its bytes in the image.
abbrev pub library_in : ℕ → List ℕ → ℕ → Library → Library
library_in form image area made =
    if form == 1 then record made { objects = digested image area made.objects } else made

-- ---- rows

-- The text spells rows of a form in their order, that of numbers among them, and they make the
-- library, under this id and with so many media blocks. It is good.
pub record IsTextOf (form id blocks : ℕ) (text : List ℕ) (library : Library) : Type 0 where
  pub rows : List Row
  pub spells : SpellsRows form text rows
  pub numbered : IsTrue (have_numbers rows)
  pub made : library ≡ library_of id blocks rows
  pub good : IsTrue (is_good library)

-- the text of a library in a form, under a header: its id, and the media blocks of its file
abbrev pub IsSnapshot : ℕ → Header → List ℕ → Library → Type 0
IsSnapshot form h = IsTextOf form h.id (h.blocks - blocks_before h.half)

-- ---- records

-- a payload is a change of a form that makes one library of another
pub record StepOf (form : ℕ) (payload : List ℕ) (from next : Library) : Type 0 where
  pub change : Change
  pub spells : SpellsChange form payload change
  pub made : applied change from ≡ Some next

-- the payloads of records of a form make one library of another, in their order
abbrev pub Folds : ℕ → List Record → Library → Library → Type 0
Folds form [] from to = to ≡ from
Folds form (r ∷ records) from to =
    (next : Library) × StepOf form r.payload from next × Folds form records next to

-- the rows and records of a half of a form make a library
pub record Makes (form : ℕ) (h : Header) (text : List ℕ) (records : List Record)
    (library : Library) : Type 0 where
  pub first : Library
  pub snapshot : IsSnapshot form h text first
  pub folds : Folds form records first library

-- ---- states

-- a state: the library with the bytes of its objects, the bytes that are left in the journal's
-- half, and the bytes of a half
pub record StoreState : Type 0 where
  pub archive : Archive
  pub room : ℕ
  pub half : ℕ

-- the image stands for a state by a half of a form
pub record StandsBy (form : ℕ) (image : List ℕ) (s : StoreState) : Type 0 where
  pub header : Header
  pub gate : ℕ
  pub text : List ℕ
  pub records : List Record
  pub reads : Reads image header gate form text records
  pub made : Library
  pub makes : Makes form header text records made
  pub library : s.archive.library ≡ library_in form image (media_start header.half) made
  pub held : s.archive.held ≡ held_in image (media_start header.half) s.archive.library.objects
  pub room : gate + s.room ≡ active_start image header.half + 4096 * header.half
  pub half : s.half ≡ 4096 * header.half

-- the image stands for a state by a half of the form in use
abbrev pub StandsFor : List ℕ → StoreState → Type 0
StandsFor = StandsBy form_in_use
