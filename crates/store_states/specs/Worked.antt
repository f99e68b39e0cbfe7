-- Worked values, computed by hand for a store of 64 blocks with 8 of them a half: two blocks and
-- two halves stand before the media blocks, of which there are 46.
use Rattle.std.specs.Prelude.{◌≡◌, ◌-◌, ℕ, List, [], ◌∷◌, None, true, false}
use Rattle.media_rows.specs.declared.object.ObjectRow.{ObjectRow}
use Rattle.media_rows.specs.declared.object.ObjectState.{ObjectState}
use Rattle.media_rows.specs.declared.object.ObjectState.TheVariants.{Allocated, Stored}
use Rattle.media_rows.specs.declared.row.Row.TheVariants.{Numbers}
use Rattle.media_rows.specs.Library.{Library, empty_library}
use Rattle.media_rows.specs.Snapshot.{have_numbers, library_of}
use Rattle.object_blobs.specs.Extents.{extent_start}
use Rattle.store_states.specs.States.{blocks_before, held_in, media_start}

-- an object in this state
abbrev pub object_in : ObjectState → ObjectRow
object_in state = record { id = 97 ∷ []; serial = 1; state = state; idle_since = 0 }

-- Where the media blocks begin, how many there are, and where the third of them is.
pub record PlacesAsWorked : Type 0 where
  pub before : blocks_before 8 ≡ 18
  pub start : media_start 8 ≡ 73728
  pub media : 64 - blocks_before 8 ≡ 46
  pub third : extent_start (media_start 8) (record { start = 2; length = 5 }) ≡ 81920

-- Bytes stand at an extent, in the objects' order, and an object without bytes has none. Here the
-- media blocks begin behind one byte.
pub record BytesAsWorked : Type 0 where
  pub some : held_in (9 ∷ 10 ∷ 11 ∷ 12 ∷ []) 1
      (object_in (Stored 0 2 None) ∷ object_in Allocated ∷ object_in (Stored 0 3 None) ∷ [])
      ≡ (10 ∷ 11 ∷ []) ∷ [] ∷ (10 ∷ 11 ∷ 12 ∷ []) ∷ []

-- The row of numbers alone makes the empty library, and no rows have it not.
pub record RowsAsWorked : Type 0 where
  pub empty : library_of 1 (64 - blocks_before 8) (Numbers 1 ∷ []) ≡ empty_library 1 46
  pub numbered : have_numbers (Numbers 1 ∷ []) ≡ true
  pub none : have_numbers [] ≡ false
