use Rattle.std.proofs.Common.{◌∙◌}
use Rattle.core_rows.proofs.Parting.{one_more}
use Rattle.core_rows.proofs.kinds.part_rows.Goals as goal

pub loop-row-preserved : goal.loop-row-preserved
loop-row-preserved c =
    (rw c.in_ok-add.was at c.add.ensures)
    ∙ one_more c.items-row-items.result.now c.loop-row.row-index c.row-item.result c.loop-row.kinds c.loop-row-test.true c.row-item.is c.loop-row.invariant
