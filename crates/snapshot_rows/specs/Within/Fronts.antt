-- Rows at the front of a text, for proofs alone.
use Rattle.std.specs.Prelude.{◌≡◌, ◌≤◌, ℕ, Bool, true, false, List, [], ◌∷◌, Option, length, take}
use Rattle.media_rows.specs.declared.row.Row.{Row}
use Rattle.media_rows.specs.Snapshot.{row_before}
use Rattle.field_codec.specs.Meaning.{SpellsFirst}
use Rattle.change_codec.specs.Rows.{row_spelling}
use Rattle.snapshot_rows.specs.declared.places.Place.{Place}
use Rattle.snapshot_rows.specs.Texts.{SpellsRows}
use Rattle.snapshot_rows.specs.Within.Places.{stands_behind}

-- no row of a form that stands behind the place begins the bytes
abbrev pub NoneFollows : ℕ → Option Place → List ℕ → Type 0
NoneFollows form last bytes =
    (row : Row) (later : List ℕ)
    → SpellsFirst (row_spelling form).meaning bytes row later → stands_behind last row ≡ false

-- a row stands behind the last of these rows
abbrev pub is_behind_last : List Row → Row → Bool
is_behind_last [] row = true
is_behind_last (x ∷ []) row = row_before x row
is_behind_last (x ∷ y ∷ rows) row = is_behind_last (y ∷ rows) row

-- the place is that of the last of these rows
abbrev pub IsLastPlace : Option Place → List Row → Type 0
IsLastPlace last rows = (row : Row) → is_behind_last rows row ≡ stands_behind last row

-- so many bytes of a text were read as these rows, of which the last has this place
pub record IsFrontRead (form : ℕ) (text : List ℕ) (rows : List Row) (at : ℕ)
    (last : Option Place) : Type 0 where
  pub within : at ≤ length text
  pub front : SpellsRows form (take at text) rows
  pub place : IsLastPlace last rows
