-- What the codec's calls promise, from what reading and writing gave.
use Rattle.std.proofs.Common.{◌≡◌, ◌-◌, inl, inr, ℕ, List, [], ◌++◌, length, Bool, true, false, Result, Ok, Err, refl, sym, ap, subst, true≢false, ◌∙◌, arith}
use Rattle.std.proofs.lemmas.List.{append-nil}
use Rattle.media_rows.specs.declared.change.Change.{Change}
use Rattle.media_rows.specs.declared.row.Row.{Row}
use Rattle.disk_trait.specs.Forms.{form_in_use}
use Rattle.field_codec.specs.Meaning.{Spells, WholeFault, begins_with}
use Rattle.field_codec.specs.Spelling.{Spelling}
use Rattle.field_codec.specs.Laws.{IsBytes, Lawful}
use Rattle.field_codec.specs.Reading.{ReadsWhole, WritesValue}
use Rattle.field_codec.specs.declared.fault.ReadFault.{ReadFault}
use Rattle.field_codec.specs.declared.fault.ReadFault.TheVariants as faults
use Rattle.field_codec.proofs.Wholes.{one_front, one_value, one_place, one_whole_place, left_over, less_left, fault_within, fault_begins_none, whole_within}
use Rattle.change_codec.specs.Changes.{all_changes, change_kind, change_spelling, has_kind}
use Rattle.change_codec.specs.Rows.{WritesIfSpelled, row_spelling}
use Rattle.change_codec.specs.Codec.{ChangeFaultAt, BeginsWithRow, AppendsRow, RowFaultAt}
use Rattle.change_codec.proofs.ChangeLaws.{all_lawful, begins_with_kind, change_lawful}
use Rattle.change_codec.proofs.RowLaws.{row_lawful}

-- where bytes remain behind a value that was read, the first of them is the place of the fault
pub bytes_remain : {A : Type 0} (f : Spelling A) (bytes rest : List ℕ) (x : A) (left : ℕ) → Lawful f → IsBytes bytes → f.read bytes ≡ Ok (x, rest)
    → left ≡ length rest → (left ≡ 0 → ⊥) → WholeFault f.meaning bytes left
bytes_remain f bytes rest x left law is e size some = rw size (left_over f law bytes rest x is e (λ none. some (size ∙ none)))

-- ---- changes

pub change_written : (form : ℕ) (change : Change) (text : List ℕ) → WritesValue all_changes [] change text → (change_spelling form).asks change
    → Spells (change_spelling form).meaning text change
change_written form change text w asks = record { fits = (w.fits, asks.1); whole = w.written ∙ all_lawful.adds [] change }

pub change_fault : (form : ℕ) (bytes : List ℕ) (left : ℕ) → IsBytes bytes → WholeFault (change_spelling form).meaning bytes left
    → ChangeFaultAt form bytes (length bytes - left)
change_fault form bytes left is fault =
    let within = whole_within (change_spelling form) (change_lawful form) bytes left is fault in
    record { left = left; fault = fault; place = omega arith }

-- bytes of another kind than the form's are faulty at their beginning
pub lacks_kind : (form : ℕ) (bytes : List ℕ) → begins_with (has_kind form) bytes ≡ false → WholeFault (change_spelling form).meaning bytes (length bytes)
lacks_kind form bytes lacks = inl (inl (lacks, refl))

-- a change that was read is of a kind of the form where its bytes are
whole_kind : (form : ℕ) (bytes rest : List ℕ) (change : Change) → begins_with (has_kind form) bytes ≡ true
    → bytes ≡ all_changes.meaning.spell change ++ rest → has_kind form (change_kind change) ≡ true
whole_kind form bytes rest change stands e =
    let first = begins_with_kind change in
    sym (ap (begins_with (has_kind form)) (e ∙ ap (λ (t : List ℕ). t ++ rest) first.1)) ∙ stands

-- what reading gives of all kinds it gives of the form's, where the bytes begin with such a kind
pub reads_in : (form : ℕ) (bytes : List ℕ) (result : Result Change ReadFault) → begins_with (has_kind form) bytes ≡ true
    → ReadsWhole all_changes bytes result → ReadsWhole (change_spelling form) bytes result
reads_in form bytes (Ok change) stands is =
    record { fits = (is.fits, whole_kind form bytes [] change stands (is.whole ∙ sym (append-nil (all_changes.meaning.spell change)))); whole = is.whole }
reads_in form bytes (Err faults.Memory) stands is = is
reads_in form bytes (Err (faults.Bad field)) stands (inl fault) = inl (inr (stands, fault))
reads_in form bytes (Err (faults.Bad field)) stands (inr behind) = inr (record {
  value = behind.value;
  rest = behind.rest;
  begins = record {
    fits = (behind.begins.fits, whole_kind form bytes behind.rest behind.value stands behind.begins.parts);
    parts = behind.begins.parts;
  };
  keeps = behind.keeps;
})

-- ---- rows

pub row_written : (old : List ℕ) (row : Row) (text new : List ℕ) → WritesValue (row_spelling form_in_use) [] row text → new ≡ old ++ text → AppendsRow old row new
row_written old row text new w e = record { spelling = text; spells = record { fits = w.fits; whole = w.written ∙ (row_lawful form_in_use).adds [] row }; appended = e }

pub row_spelled : (old start : List ℕ) (row : Row) (text new : List ℕ) (spelled : Bool) → spelled ≡ true → start ≡ []
    → WritesIfSpelled (row_spelling form_in_use) start row text spelled → new ≡ old ++ text → AppendsRow old row new
row_spelled old start row text new true is none w e = row_written old row text new (subst (λ (t : List ℕ). WritesValue (row_spelling form_in_use) t row text) none w) e
row_spelled old start row text new false is none w e = absurd (true≢false (sym is))

pub row_read : (form : ℕ) (bytes rest : List ℕ) (row : Row) → IsBytes bytes → (row_spelling form).read bytes ≡ Ok (row, rest)
    → BeginsWithRow form bytes row (length bytes - length rest)
row_read form bytes rest row is e =
    let within = less_left (row_spelling form) (row_lawful form) bytes rest row is e in
    record { rest = rest; begins = (row_lawful form).takes bytes row rest is e; place = omega arith }

-- bytes begin with one row at most
pub one_row : (form : ℕ) (bytes : List ℕ) (row other : Row) (taken more : ℕ) → BeginsWithRow form bytes row taken → BeginsWithRow form bytes other more
    → (row ≡ other) × (taken ≡ more)
one_row form bytes row other taken more a b =
    let same = one_front (row_spelling form) (row_lawful form) bytes row other a.rest b.rest a.begins b.begins in
    (same.0, omega (arith, a.place, b.place, ap length same.1))

pub row_fault : (form : ℕ) (bytes : List ℕ) (left : ℕ) → IsBytes bytes → (row_spelling form).read bytes ≡ Err left → RowFaultAt form bytes (length bytes - left)
row_fault form bytes left is e =
    let within = fault_within (row_spelling form) (row_lawful form) bytes left is e in
    record { left = left; fault = (row_lawful form).faults bytes left is e; place = omega arith }

pub no_row : (form : ℕ) (bytes : List ℕ) (left : ℕ) → (row_spelling form).read bytes ≡ Err left → (row : Row) (taken : ℕ) → BeginsWithRow form bytes row taken → ⊥
no_row form bytes left e row taken b = fault_begins_none (row_spelling form) (row_lawful form) bytes b.rest left row e b.begins

-- ---- laws

pub one_change : (form : ℕ) (bytes : List ℕ) (a b : Change) → Spells (change_spelling form).meaning bytes a → Spells (change_spelling form).meaning bytes b → a ≡ b
one_change form bytes a b left right = one_value (change_spelling form) (change_lawful form) bytes a b left right

pub no_prefix : (form : ℕ) (text more : List ℕ) (a b : Row) → Spells (row_spelling form).meaning text a → Spells (row_spelling form).meaning (text ++ more) b → more ≡ []
no_prefix form text more a b left right =
    (one_front (row_spelling form) (row_lawful form) (text ++ more) a b more [] (record { fits = left.fits; parts = ap (λ (t : List ℕ). t ++ more) left.whole })
    (record { fits = right.fits; parts = right.whole ∙ sym (append-nil ((row_spelling form).meaning.spell b)) })).1

pub one_change_fault : (form : ℕ) (bytes : List ℕ) (at other : ℕ) → IsBytes bytes → ChangeFaultAt form bytes at → ChangeFaultAt form bytes other → at ≡ other
one_change_fault form bytes at other is a b =
    let same = one_whole_place (change_spelling form) (change_lawful form) bytes a.left b.left is a.fault b.fault in
    omega (arith, a.place, b.place, same)

pub one_row_fault : (form : ℕ) (bytes : List ℕ) (at other : ℕ) → IsBytes bytes → RowFaultAt form bytes at → RowFaultAt form bytes other → at ≡ other
one_row_fault form bytes at other is a b =
    let same = one_place (row_spelling form) (row_lawful form) bytes a.left b.left is a.fault b.fault in
    omega (arith, a.place, b.place, same)
