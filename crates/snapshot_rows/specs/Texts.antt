-- What a text of rows spells in a form of the file, and where it is damaged. Our own format.
use Rattle.std.specs.Prelude.{◌≡◌, ◌<◌, ◌++◌, ℕ, List, [], ◌∷◌, length, Result, Ok, Err, IsTrue}
use Rattle.std.specs.List.{AllByRecursion, flat_map}
use Rattle.media_rows.specs.declared.row.Row.{Row}
use Rattle.media_rows.specs.Lists.{rises}
use Rattle.media_rows.specs.Snapshot.{row_before}
use Rattle.field_codec.specs.Meaning.{SpellsFirst}
use Rattle.change_codec.specs.Rows.{row_spelling}
use Rattle.snapshot_rows.specs.declared.fault.RowsFault.{RowsFault}
use Rattle.snapshot_rows.specs.declared.fault.RowsFault.TheVariants.{Damaged, Memory}

-- the spellings of rows in a form, one after another
abbrev pub text_of_rows : ℕ → List Row → List ℕ
text_of_rows form rows = flat_map (row_spelling form).meaning.spell rows

-- The text spells these rows in a form one after another, and each stands before all later ones in
-- the order of a snapshot.
pub record SpellsRows (form : ℕ) (text : List ℕ) (rows : List Row) : Type 0 where
  pub fit : AllByRecursion (row_spelling form).meaning.fits rows
  pub spelled : text ≡ text_of_rows form rows
  pub rising : IsTrue (rises row_before rows)

-- The bytes begin with a row's spelling in a form, and that row may stand behind these rows.
pub record Continues (form : ℕ) (front : List Row) (bytes : List ℕ) : Type 0 where
  pub row : Row
  pub later : List ℕ
  pub begins : SpellsFirst (row_spelling form).meaning bytes row later
  pub rising : IsTrue (rises row_before (front ++ row ∷ []))

-- Rows in their order stand before this offset of the text, which isn't its end, and no row that
-- may follow them begins there.
pub record IsDamagedAt (form : ℕ) (text : List ℕ) (at : ℕ) : Type 0 where
  pub front : List Row
  pub before : List ℕ
  pub behind : List ℕ
  pub parts : text ≡ before ++ behind
  pub rows : SpellsRows form before front
  pub place : at ≡ length before
  pub some : 0 < length behind
  pub none : Continues form front behind → ⊥

-- what holds of the place of damage that is answered
abbrev pub OnDamaged : {X : Type 0} → Result X RowsFault → (ℕ → Type 0) → Type 0
OnDamaged (Ok x) Holds = Unit {0}
OnDamaged (Err Memory) Holds = Unit {0}
OnDamaged (Err (Damaged at)) Holds = Holds at

-- ---- laws

-- in each form a text spells one list of rows at most
abbrev pub IsOneList : Type 0
IsOneList =
    (form : ℕ) (text : List ℕ) (some other : List Row)
    → SpellsRows form text some → SpellsRows form text other → other ≡ some

-- a text is damaged at one place at most
abbrev pub IsOnePlace : Type 0
IsOnePlace =
    (form : ℕ) (text : List ℕ) (some other : ℕ)
    → IsDamagedAt form text some → IsDamagedAt form text other → other ≡ some

-- a text that is damaged spells no rows
abbrev pub DamageIsNoText : Type 0
DamageIsNoText =
    (form : ℕ) (text : List ℕ) (at : ℕ) (rows : List Row)
    → IsDamagedAt form text at → SpellsRows form text rows → ⊥
