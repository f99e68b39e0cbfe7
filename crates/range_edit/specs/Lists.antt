-- Lists of edits: texts of CSV (RFC 4180), as the kit's `csv` reads them, with a head and rows. Our
-- own profile.
use Rattle.std.specs.Prelude.{◌≡◌, ◌≢◌, ◌<◌, ◌≤◌, ◌+◌, ◌⊎◌, ℕ, ℤ, List, [], ◌∷◌, ◌++◌, Option, Some, Result, Ok, Err, IsTrue, codes, length}
use Rattle.std.specs.List.{AllZip}
use Rattle.csv.specs.Reading.{AreRecords, Reached, default_config, strip_bom}
use Rattle.csv.specs.declared.parser.State.{State}
use Rattle.csv.specs.declared.parser.State.TheVariants.{StartRecord}
use Rattle.time_range.specs.Points.{IsNanos, IsRange}
use Rattle.time_range.specs.Spelling.{SpellsRange, SpellsTs}
use Rattle.time_range.specs.declared.ranges.Span.{Span}
use Rattle.media_rows.specs.Ids.{id_of}
use Rattle.media_rows.specs.Ranges.{has_both_ends}
use Rattle.range_edit.specs.declared.list.EditRow.{EditRow}
use Rattle.range_edit.specs.declared.fault.EditFault.{EditFault}
use Rattle.range_edit.specs.declared.fault.EditFault.TheVariants.{TooLong, BadRow, BadTime, NoFlow, FormatDiffers, TooFar, RowsOverlap, Occupied, NoRate, TooMany, Memory}

-- ---- records

-- a record: the bytes of each of its fields
abbrev pub Fields : Type 0
Fields = List (List ℕ)

-- these are all records of a text, which may begin with a byte order mark
abbrev pub HasRecords : List ℕ → List Fields → Type 0
HasRecords text records = AreRecords default_config StartRecord (strip_bom text) records

-- these are the first records of a text
abbrev pub BeginsWith : List ℕ → List Fields → Type 0
BeginsWith text records =
    (state : State) × (rest : List ℕ)
    × Reached default_config StartRecord (strip_bom text) records state rest

-- ---- rows

-- the first record
abbrev pub head_fields : Fields
head_fields = codes "flow" ∷ codes "timerange" ∷ codes "at" ∷ []

-- a text spells a range that isn't never and is open at neither end
pub record SpellsBounded (text : List ℕ) (range : Option Span) : Type 0 where
  pub spelled : SpellsRange text range
  pub sound : IsRange range
  pub bounded : IsTrue (has_both_ends range)

-- a text spells a timestamp
pub record SpellsAt (text : List ℕ) (at : ℤ) : Type 0 where
  pub spelled : SpellsTs text at
  pub within : IsNanos at

-- a record has three fields, the first of which spells the id of a flow
pub record NamesFlow (fields : Fields) : Type 0 where
  pub id : List ℕ
  pub range : List ℕ
  pub at : List ℕ
  pub three : fields ≡ id ∷ range ∷ at ∷ []
  pub flow : ℕ
  pub names : id_of id ≡ Some flow

-- a record spells a row: the id of its flow, its range and its instant
pub record SpellsRow (fields : Fields) (row : EditRow) : Type 0 where
  pub id : List ℕ
  pub range : List ℕ
  pub at : List ℕ
  pub three : fields ≡ id ∷ range ∷ at ∷ []
  pub names : id_of id ≡ Some row.flow
  pub spells_range : SpellsBounded range row.range
  pub spells_at : SpellsAt at row.at

-- the range of a row isn't never and is open at neither end
abbrev pub IsBoundedRow : EditRow → Type 0
IsBoundedRow row = IsTrue (has_both_ends row.range)

-- a record names no flow
abbrev pub LacksFlow : Fields → Type 0
LacksFlow fields = ¬ (NamesFlow fields)

-- a record names a flow, and yet spells no row, for its range or its timestamp
pub record LacksTimes (fields : Fields) : Type 0 where
  pub names : NamesFlow fields
  pub no_row : (row : EditRow) → ¬ (SpellsRow fields row)

-- ---- lists

-- the most bytes of a list
abbrev pub max_list : ℕ
max_list = 1048576

-- a text is the list of these rows: the head, and a record for each row in order
pub record IsListOf (text : List ℕ) (rows : List EditRow) : Type 0 where
  pub short : length text ≤ max_list
  pub records : List Fields
  pub all : HasRecords text (head_fields ∷ records)
  pub spelled : AllZip SpellsRow records rows

-- a text doesn't begin with the head: it has no record, or another first one
abbrev pub LacksHead : List ℕ → Type 0
LacksHead text =
    HasRecords text []
    ⊎ ((fields : Fields) × BeginsWith text (fields ∷ []) × (fields ≢ head_fields))

-- Record n of a text, from 1, is bad in this way; it comes behind the head and records that spell
-- rows.
pub record HasBad (IsBad : Fields → Type 0) (text : List ℕ) (n : ℕ) : Type 0 where
  pub records : List Fields
  pub rows : List EditRow
  pub spelled : AllZip SpellsRow records rows
  pub bad : Fields
  pub begins : BeginsWith text (head_fields ∷ records ++ bad ∷ [])
  pub is_bad : IsBad bad
  pub place : n ≡ length records + 2

-- record n of a text is the first that isn't as asked: it isn't the head, or names no flow
abbrev pub HasBadRow : List ℕ → ℕ → Type 0
HasBadRow text n = ((n ≡ 1) × LacksHead text) ⊎ HasBad LacksFlow text n

-- why a text is no list; want of memory may come at any time
abbrev pub IsFaultIn : List ℕ → EditFault → Type 0
IsFaultIn text TooLong = max_list < length text
IsFaultIn text (BadRow n) = (length text ≤ max_list) × HasBadRow text n
IsFaultIn text (BadTime n) = (length text ≤ max_list) × HasBad LacksTimes text n
IsFaultIn text Memory = Unit {0}
IsFaultIn text (NoFlow n) = ⊥
IsFaultIn text (FormatDiffers n) = ⊥
IsFaultIn text (TooFar n) = ⊥
IsFaultIn text (RowsOverlap n) = ⊥
IsFaultIn text (Occupied n) = ⊥
IsFaultIn text (NoRate n) = ⊥
IsFaultIn text TooMany = ⊥

-- what a text is answered
abbrev pub IsAnswer : List ℕ → Result (List EditRow) EditFault → Type 0
IsAnswer text (Ok rows) = IsListOf text rows
IsAnswer text (Err fault) = IsFaultIn text fault

-- two answers to a text are the same one, unless memory was wanting
abbrev pub IsOneAnswer : Type 0
IsOneAnswer =
    (text : List ℕ) (a b : Result (List EditRow) EditFault)
    → IsAnswer text a → IsAnswer text b → a ≢ Err Memory → b ≢ Err Memory → a ≡ b
