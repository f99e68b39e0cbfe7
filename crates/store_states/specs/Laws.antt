-- Laws of states, which hold of all images and libraries. Those that speak of devices stand in
-- proofs/Agreeing.antt, since a clause can't range over all devices.
use Rattle.std.specs.Prelude.{◌≡◌, ◌≤◌, ◌+◌, ◌-◌, ◌*◌, ℕ, List, IsTrue}
use Rattle.std.specs.List.{list_all}
use Rattle.media_rows.specs.declared.object.ObjectRow.{ObjectRow}
use Rattle.media_rows.specs.Good.{Good}
use Rattle.media_rows.specs.Library.{Library}
use Rattle.media_rows.specs.Media.{HasDigests}
use Rattle.media_rows.specs.Objects.{is_clear_of}
use Rattle.library_laws.specs.MediaLaws.{IsGoodArchive}
use Rattle.disk_trait.specs.Calls.{Torn}
use Rattle.media_journal.specs.declared.header.Header.{Header}
use Rattle.media_journal.specs.declared.record.Record.{Record}
use Rattle.store_states.specs.States.{Makes, StandsBy, StoreState, blocks_before, held_in}

-- an image stands for one state at most, by a half of whatever form
abbrev pub IsOneState : Type 0
IsOneState =
    (image : List ℕ) (form again : ℕ) (s other : StoreState)
    → StandsBy form image s → StandsBy again image other → other ≡ s

-- ---- the bytes of objects

-- no stored object has a block of this place
abbrev pub is_clear : List ObjectRow → ℕ → ℕ → Type 0
is_clear objects start count = IsTrue (list_all (λ row. is_clear_of start count row.state) objects)

-- so many bytes from one place on lie in these media blocks
pub record AreInBlocks (area start count at n : ℕ) : Type 0 where
  pub from : area + 4096 * start ≤ at
  pub to : at + n ≤ area + 4096 * (start + count)

-- a write in blocks that no stored object has leaves the bytes of all objects
abbrev pub ClearWritesLeaveBytes : Type 0
ClearWritesLeaveBytes =
    (image other : List ℕ) (area start count at n : ℕ) (objects : List ObjectRow)
    → Torn at n image other → is_clear objects start count → AreInBlocks area start count at n
    → held_in other area objects ≡ held_in image area objects

-- a write before the media blocks leaves them
abbrev pub EarlyWritesLeaveBytes : Type 0
EarlyWritesLeaveBytes =
    (image other : List ℕ) (area at n : ℕ) (objects : List ObjectRow)
    → Torn at n image other → at + n ≤ area
    → held_in other area objects ≡ held_in image area objects

-- ---- what stands is good

-- a library of a header: its id, and the media blocks of its file
pub record IsUnder (h : Header) (library : Library) : Type 0 where
  pub id : library.id ≡ h.id
  pub blocks : library.blocks ≡ h.blocks - blocks_before h.half

-- the library of a half's rows and records is good, and is one of the file
abbrev pub LibrariesAreGood : Type 0
LibrariesAreGood =
    (form : ℕ) (h : Header) (text : List ℕ) (records : List Record) (library : Library)
    → Makes form h text records library → Good library × IsUnder h library

-- a state for which an image stands is good: its library, and the lengths of its objects' bytes
abbrev pub StatesAreGood : Type 0
StatesAreGood =
    (form : ℕ) (image : List ℕ) (s : StoreState) → StandsBy form image s → IsGoodArchive s.archive

-- by a half of form 1 it has the digests of its objects' bytes
abbrev pub OldStatesHaveDigests : Type 0
OldStatesHaveDigests =
    (image : List ℕ) (s : StoreState) → StandsBy 1 image s → HasDigests s.archive
