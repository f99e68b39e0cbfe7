-- The rows of a list that a reader has come past.
use Rattle.std.proofs.Common.{Bor, ◌≡◌, ◌≤◌, ◌+◌, ℕ, List, [], ◌∷◌, ◌++◌, true, false, length, suc, ap, Ok, Err, Result, sym, refl, inl, inr}
use Rattle.std.specs.List.{All, AllZip}
use Rattle.std.proofs.lemmas.List.Elements.{All-cons, All-nil}
use Rattle.std.specs.Result.{IfErr, IsErrAnd}
use Rattle.csv.specs.Reading.{ReadRecord, took_first}
use Rattle.csv.specs.declared.reader.Reader.{Reader}
use Rattle.range_edit.proofs.Given.{begins_given, bytes_left, gives_all, gives_more}
use Rattle.range_edit.proofs.ListLemmas.{AllZip-push}
use Rattle.range_edit.specs.Lists.{Fields, HasBad, IsBoundedRow, IsFaultIn, IsListOf, SpellsRow, head_fields, max_list}
use Rattle.range_edit.specs.Within.{HasGiven, HasReadRows, IsRowFault}
use Rattle.range_edit.specs.declared.list.EditRow.{EditRow}
use Rattle.range_edit.specs.declared.fault.EditFault.{EditFault}

-- a fault that is passed on
pub fault_passes : {T E : Type 0} (result : Result T E) (fault : E) (P : E → Type 0)
    → IsErrAnd result (λ e. e ≡ fault) → P fault → IfErr result P
fault_passes (Ok x) fault P same is = absurd same
fault_passes (Err e) fault P same is = rw same is

-- there are as many records as rows
pub as_many : (records : List Fields) (rows : List EditRow) → AllZip SpellsRow records rows
    → length records ≡ length rows
as_many [] [] all = refl
as_many [] (x ∷ rows) all = absurd all
as_many (r ∷ records) [] all = absurd all
as_many (r ∷ records) (x ∷ rows) all = ap suc (as_many records rows all.1)

-- behind the head there is no row
pub reads_head : (text : List ℕ) (reader : Reader (Bor (List ℕ)))
    → HasGiven text (head_fields ∷ []) reader
    → HasReadRows text [] reader
reads_head text reader given = record { records = []; spelled = tt; given = given }

-- a record that spells a row
pub reads_row : (text : List ℕ) (rows : List EditRow) (row : EditRow) (fields : Fields)
    (old new : Reader (Bor (List ℕ))) → HasReadRows text rows old → ReadRecord bytes_left old new true fields
    → took_first new ≡ true → SpellsRow fields row → HasReadRows text (rows ++ row ∷ []) new
reads_row text rows row fields old new so_far read first one = record {
  records = so_far.records ++ fields ∷ [];
  spelled = AllZip-push SpellsRow so_far.records rows fields row so_far.spelled one;
  given = gives_more text (head_fields ∷ so_far.records) fields old new so_far.given read first;
}

-- no record is left
pub reads_all : (text : List ℕ) (rows : List EditRow) (fields : Fields)
    (old new : Reader (Bor (List ℕ))) → length text ≤ max_list → HasReadRows text rows old
    → ReadRecord bytes_left old new false fields → IsListOf text rows
reads_all text rows fields old new short so_far read = record {
  short = short;
  records = so_far.records;
  all = gives_all text (head_fields ∷ so_far.records) fields old new so_far.given read;
  spelled = so_far.spelled;
}

-- a record that is bad
reads_bad : (IsBad : Fields → Type 0) (text : List ℕ) (rows : List EditRow) (fields : Fields)
    (old new : Reader (Bor (List ℕ))) → HasReadRows text rows old → ReadRecord bytes_left old new true fields
    → took_first new ≡ true → IsBad fields → HasBad IsBad text (length rows + 2)
reads_bad IsBad text rows fields old new so_far read first bad = record {
  records = so_far.records;
  rows = rows;
  spelled = so_far.spelled;
  bad = fields;
  begins = begins_given text _ new
      (gives_more text (head_fields ∷ so_far.records) fields old new so_far.given read first);
  is_bad = bad;
  place = ap (λ n. n + 2) (sym (as_many so_far.records rows so_far.spelled));
}

-- a record that spells no row is the fault of the list
pub reads_fault : (text : List ℕ) (rows : List EditRow) (fields : Fields) (fault : EditFault)
    (old new : Reader (Bor (List ℕ))) → length text ≤ max_list → HasReadRows text rows old
    → ReadRecord bytes_left old new true fields
    → took_first new ≡ true → IsRowFault fields (length rows + 2) fault → IsFaultIn text fault
reads_fault text rows fields fault old new short so_far read first (inl (is, bad)) =
    rw is (short, inr (reads_bad _ text rows fields old new so_far read first bad))
reads_fault text rows fields fault old new short so_far read first (inr (is, bad)) =
    rw is (short, reads_bad _ text rows fields old new so_far read first bad)

-- the rows that records spell are bounded
rows_bounded : (records : List Fields) (rows : List EditRow) → AllZip SpellsRow records rows → All IsBoundedRow rows
rows_bounded [] [] all = All-nil IsBoundedRow
rows_bounded [] (x ∷ rows) all = absurd all
rows_bounded (r ∷ records) [] all = absurd all
rows_bounded (r ∷ records) (x ∷ rows) all =
    All-cons IsBoundedRow x rows all.0.spells_range.bounded (rows_bounded records rows all.1)

-- and so are those of a list
pub list_bounded : (text : List ℕ) (rows : List EditRow) → IsListOf text rows → All IsBoundedRow rows
list_bounded text rows list = rows_bounded list.records rows list.spelled
