use Rattle.std.proofs.Common.{ℕ, length, ◌-◌, ap₂, arith}
use Rattle.media_rows.specs.declared.row.Row.{Row}
use Rattle.field_codec.proofs.Wholes.{fault_within, less_left}
use Rattle.change_codec.specs.Rows.{row_spelling}
use Rattle.change_codec.specs.Codec.{BeginsWithRow}
use Rattle.change_codec.proofs.RowLaws.{row_lawful}
use Rattle.change_codec.proofs.CodecLemmas.{row_read, one_row, row_fault, no_row}
use Rattle.change_codec.proofs.whole.decode_row.Goals as goal

pub overflow_sub-result : goal.overflow_sub-result
overflow_sub-result c =
    rw c.left.ensures (less_left (row_spelling c.args.form) (row_lawful c.args.form) c.args.bytes.now c.read_row.new.input c.in-Ok.row (λ i. omega (arith, c.type_inv.bytes i))
    (rw c.new-input.ensures at c.in-Ok.ensures))

pub overflow_sub-result-in-Err-Bad : goal.overflow_sub-result-in-Err-Bad
overflow_sub-result-in-Err-Bad c =
    rw c.in-Err-Bad.field-0-is (fault_within (row_spelling c.args.form) (row_lawful c.args.form) c.args.bytes.now c.in-Err-Bad.field.left (λ i. omega (arith, c.type_inv.bytes i))
    (rw (c.in-Err-Bad.field-0-is, c.new-input.ensures) at c.in-Err-Bad.ensures))

pub returns-in-Ok-clause-ok : goal.returns-in-Ok-clause-ok
returns-in-Ok-clause-ok c =
    rw c.left.ensures (row_read c.args.form c.args.bytes.now c.read_row.new.input c.in-Ok.row (λ i. omega (arith, c.type_inv.bytes i))
    (rw c.new-input.ensures at c.in-Ok.ensures))

-- bytes begin with one row at most
pub returns-in-Ok-clause-only : goal.returns-in-Ok-clause-only
returns-in-Ok-clause-only c = λ row taken other.
    let found : BeginsWithRow c.args.form c.args.bytes.now c.in-Ok.row (length c.args.bytes.now - c.left.result) =
    rw c.left.ensures (row_read c.args.form c.args.bytes.now c.read_row.new.input c.in-Ok.row (λ i. omega (arith, c.type_inv.bytes i))
    (rw c.new-input.ensures at c.in-Ok.ensures)) in
    let same = one_row c.args.form c.args.bytes.now c.in-Ok.row row (length c.args.bytes.now - c.left.result) taken found other in
    ap₂ (λ (r : Row) (n : ℕ). (r, n)) same.0 same.1

pub returns-in-Err-Bad-clause-bad : goal.returns-in-Err-Bad-clause-bad
returns-in-Err-Bad-clause-bad c =
    rw c.in-Err-Bad.field-0-is (row_fault c.args.form c.args.bytes.now c.in-Err-Bad.field.left (λ i. omega (arith, c.type_inv.bytes i))
    (rw (c.in-Err-Bad.field-0-is, c.new-input.ensures) at c.in-Err-Bad.ensures))

pub returns-in-Err-Bad-clause-none : goal.returns-in-Err-Bad-clause-none
returns-in-Err-Bad-clause-none c =
    no_row c.args.form c.args.bytes.now c.in-Err-Bad.field.left (rw (c.in-Err-Bad.field-0-is, c.new-input.ensures) at c.in-Err-Bad.ensures)

pub returns-in-Ok-clause-writable : goal.returns-in-Ok-clause-writable
returns-in-Ok-clause-writable c =
    (row_lawful c.args.form).writable c.in-Ok.row ((row_lawful c.args.form).takes c.args.bytes.now c.in-Ok.row c.read_row.new.input (λ i. omega (arith, c.type_inv.bytes i))
    (rw c.new-input.ensures at c.in-Ok.ensures)).fits
