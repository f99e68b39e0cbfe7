-- What the codec's calls promise, in the words of the spellings. A form of the file is 1 or 2.
use Rattle.std.specs.Prelude.{◌≡◌, ◌+◌, ◌++◌, ℕ, Bool, true, false, List, length}
use Rattle.disk_trait.specs.Forms.{form_in_use}
use Rattle.media_rows.specs.declared.change.Change.{Change}
use Rattle.media_rows.specs.declared.row.Row.{Row}
use Rattle.field_codec.specs.Meaning.{SpellsFirst, Spells, WholeFault}
use Rattle.change_codec.specs.Changes.{change_spelling}
use Rattle.change_codec.specs.Rows.{row_spelling}

-- the bytes are the change's spelling in a form
abbrev pub SpellsChange : ℕ → List ℕ → Change → Type 0
SpellsChange form bytes change = Spells (change_spelling form).meaning bytes change

-- The change can be written in a form: the form has its kind, its tags rise by name and a single
-- one has one value, the name beside a tag is the tag's, a part of a source is a tag, a label or a
-- description, segments stand as a list, and each text has fewer than 2 ^ 32 bytes and each list
-- fewer items than that.
abbrev pub CanWriteChange : ℕ → Change → Type 0
CanWriteChange form change = (change_spelling form).asks change

-- The bytes are no change's spelling in a form: their kind is none of the form's, or there a field
-- is faulty, or bytes remain behind the last one.
pub record ChangeFaultAt (form : ℕ) (bytes : List ℕ) (at : ℕ) : Type 0 where
  pub left : ℕ
  pub fault : WholeFault (change_spelling form).meaning bytes left
  pub place : at + left ≡ length bytes

-- the bytes begin with the row's spelling in a form, which takes so many of them
pub record BeginsWithRow (form : ℕ) (bytes : List ℕ) (row : Row) (taken : ℕ) : Type 0 where
  pub rest : List ℕ
  pub begins : SpellsFirst (row_spelling form).meaning bytes row rest
  pub place : taken + length rest ≡ length bytes

-- the row's spelling in the form in use stands behind what was there
pub record AppendsRow (old : List ℕ) (row : Row) (new : List ℕ) : Type 0 where
  pub spelling : List ℕ
  pub spells : Spells (row_spelling form_in_use).meaning spelling row
  pub appended : new ≡ old ++ spelling

-- the row's spelling stands behind what was there, or it has none, and then what was there stays
abbrev pub AppendsIfSpelled : List ℕ → Row → List ℕ → Bool → Type 0
AppendsIfSpelled old row new true = AppendsRow old row new
AppendsIfSpelled old row new false = ((row_spelling form_in_use).asks row → ⊥) × (new ≡ old)

-- The row can be written in a form: as for changes, an object has a digest exactly where the form
-- has one, and the row's fields together have fewer than 2 ^ 32 bytes.
abbrev pub CanWriteRow : ℕ → Row → Type 0
CanWriteRow form row = (row_spelling form).asks row

-- The bytes begin with no row's spelling in a form: there a field is faulty.
pub record RowFaultAt (form : ℕ) (bytes : List ℕ) (at : ℕ) : Type 0 where
  pub left : ℕ
  pub fault : (row_spelling form).meaning.faulty bytes left
  pub place : at + left ≡ length bytes
