use Rattle.std.proofs.Common.{arith}
use Rattle.store_opening.proofs.Opened.{damaged_row, other_rows}
use Rattle.store_opening.proofs.rows.library_of_rows.Goals as goal

-- A row of the text is damaged.
pub returns-in-Err-Damaged-clause-damaged : goal.returns-in-Err-Damaged-clause-damaged
returns-in-Err-Damaged-clause-damaged c = λ image is.
    let damaged = rw c.in-Err-Damaged.field-0-is at c.in-Err-Damaged.ensures.damaged in
    damaged_row image c.args.opened.now c.in-Err-Damaged.row c.saturating_add.result is (rw c.bytes.ensures at damaged) (λ fits. omega (arith, fits))

-- The rows are those of no good library.
pub returns-in-Err-Refused-clause-damaged : goal.returns-in-Err-Refused-clause-damaged
returns-in-Err-Refused-clause-damaged c = λ image is.
    other_rows image c.args.opened.now _ c.in-Ok.rows c.saturating_sub.result is (omega arith) (rw c.bytes.ensures at c.in-Ok.ensures.ok)
    (rw c.in-Err-Refused.field-0-is at c.in-Err-Refused.ensures) (λ some. omega (arith, some))
