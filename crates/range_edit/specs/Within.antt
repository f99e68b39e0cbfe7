-- What only proofs need: how far a reader has come, and the parts of the reading of a row.
use Rattle.std.specs.Prelude.{◌≡◌, ◌∷◌, ◌⊎◌, ℕ, ℤ, List, Option, Some}
use Rattle.std.specs.Borrow.{Bor}
use Rattle.std.specs.List.{AllZip}
use Rattle.csv.specs.Reading.{Reached, Ready, default_config, reader_config, reader_state, reader_trim, source_of, strip_bom}
use Rattle.csv.specs.declared.parser.State.TheVariants.{StartRecord}
use Rattle.csv.specs.declared.reader.Reader.{Reader}
use Rattle.csv.specs.declared.reader.Trim.TheVariants as trims
use Rattle.time_range.specs.declared.ranges.Span.{Span}
use Rattle.range_edit.specs.Lists.{Fields, LacksFlow, LacksHead, LacksTimes, SpellsAt, SpellsBounded, SpellsRow, head_fields}
use Rattle.range_edit.specs.declared.list.EditRow.{EditRow}
use Rattle.range_edit.specs.declared.fault.EditFault.{EditFault}
use Rattle.range_edit.specs.declared.fault.EditFault.TheVariants.{BadRow, BadTime, Memory}
pub mod Cutting

-- a reader has given these records of a text, and reads on behind them
pub record HasGiven (text : List ℕ) (records : List Fields) (reader : Reader (Bor (List ℕ)))
    : Type 0 where
  pub trim : reader_trim reader ≡ trims.None
  pub ready : Ready reader
  pub config : reader_config reader ≡ default_config
  pub rest : List ℕ
  pub source : source_of (λ s. Some s.now) reader ≡ Some rest
  pub reached : Reached default_config StartRecord (strip_bom text) records
      (reader_state reader) rest

-- why there is no head
abbrev pub IsHeadFault : List ℕ → EditFault → Type 0
IsHeadFault text fault = ((fault ≡ BadRow 1) × LacksHead text) ⊎ (fault ≡ Memory)

-- two texts spell a range with both ends and a timestamp
abbrev pub SpellsTimes : List ℕ → List ℕ → Option Span → ℤ → Type 0
SpellsTimes range_text at_text range at = SpellsBounded range_text range × SpellsAt at_text at

-- why record n spells no row
abbrev pub IsRowFault : Fields → ℕ → EditFault → Type 0
IsRowFault fields n fault =
    ((fault ≡ BadRow n) × LacksFlow fields) ⊎ ((fault ≡ BadTime n) × LacksTimes fields)

-- a reader has given the head and a record for each of these rows
pub record HasReadRows (text : List ℕ) (rows : List EditRow) (reader : Reader (Bor (List ℕ)))
    : Type 0 where
  pub records : List Fields
  pub spelled : AllZip SpellsRow records rows
  pub given : HasGiven text (head_fields ∷ records) reader
