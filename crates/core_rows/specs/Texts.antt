-- The text of rows: the spelling of each, one behind the other. Our own rules.
use Rattle.std.specs.Prelude.{◌≡◌, ◌++◌, ℕ, List}
use Rattle.std.specs.List.{AllByRecursion, flat_map}
use Rattle.disk_trait.specs.Forms.{form_in_use}
use Rattle.media_rows.specs.declared.row.Row.{Row}
use Rattle.change_codec.specs.Rows.{row_spelling}

-- the text of rows
abbrev pub text_of : List Row → List ℕ
text_of rows = flat_map (row_spelling form_in_use).meaning.spell rows

-- rows that have a spelling were written at the end of a text
pub record AddsRows (old : List ℕ) (rows : List Row) (new : List ℕ) : Type 0 where
  pub fit : AllByRecursion (row_spelling form_in_use).meaning.fits rows
  pub text : new ≡ old ++ text_of rows
