use Rattle.std.proofs.Common.{arith}
use Rattle.field_codec.proofs.Wholes.{one_value, fault_refuses, whole_within}
use Rattle.change_codec.specs.Changes.{change_spelling}
use Rattle.change_codec.proofs.ChangeLaws.{change_lawful}
use Rattle.change_codec.proofs.CodecLemmas.{change_fault}
use Rattle.change_codec.proofs.whole.decode_change.Goals as goal

pub returns-in-Ok-clause-only : goal.returns-in-Ok-clause-only
returns-in-Ok-clause-only c = λ change s. one_value (change_spelling c.args.form) (change_lawful c.args.form) c.args.bytes.now c.in-Ok.change change c.in-Ok.ensures s

pub overflow_sub-result : goal.overflow_sub-result
overflow_sub-result c = whole_within (change_spelling c.args.form) (change_lawful c.args.form) c.args.bytes.now c.in-Err-Bad.field.left (λ i. omega (arith, c.type_inv.bytes i))
    (rw c.in-Err-Bad.field-0-is at c.in-Err-Bad.ensures)

pub returns-in-Err-Bad-clause-bad : goal.returns-in-Err-Bad-clause-bad
returns-in-Err-Bad-clause-bad c = change_fault c.args.form c.args.bytes.now c.in-Err-Bad.field.left (λ i. omega (arith, c.type_inv.bytes i))
    (rw c.in-Err-Bad.field-0-is at c.in-Err-Bad.ensures)

pub returns-in-Err-Bad-clause-none : goal.returns-in-Err-Bad-clause-none
returns-in-Err-Bad-clause-none c = fault_refuses (change_spelling c.args.form) (change_lawful c.args.form) c.args.bytes.now c.in-Err-Bad.field.left (λ i. omega (arith, c.type_inv.bytes i))
    (rw c.in-Err-Bad.field-0-is at c.in-Err-Bad.ensures)

pub returns-in-Ok-clause-writable : goal.returns-in-Ok-clause-writable
returns-in-Ok-clause-writable c = (change_lawful c.args.form).writable c.in-Ok.change c.in-Ok.ensures.fits
