use Rattle.std.proofs.Common.{arith}
use Rattle.range_edit.proofs.CutLemmas.{first_refused}
use Rattle.range_edit.proofs.Rows.{fault_passes}
use Rattle.range_edit.proofs.assembling.cut_rows.Goals as goal

-- The row is the first that is refused.
pub returns-in_err-cut_row-clause-fault : goal.returns-in_err-cut_row-clause-fault
returns-in_err-cut_row-clause-fault c =
    fault_passes _ _ _ c.from_residual.ensures.1
    (first_refused _ _ c.args.rows.now c.loop-row.row-index c.row-item.result c.loop-row.cutting _
    (omega arith)
    c.row-item.is c.loop-row.invariant c.in_err-cut_row.ensures.fault)
