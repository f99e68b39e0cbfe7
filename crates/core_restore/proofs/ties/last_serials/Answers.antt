use Rattle.std.proofs.Common.{arith}
use Rattle.core_restore.proofs.Lasting.{last_step}
use Rattle.core_restore.proofs.ties.last_serials.Goals as goal

-- each segment stands behind those before it
pub loop-row-preserved : goal.loop-row-preserved
loop-row-preserved c =
    last_step c.args.segments.now c.loop-row.row-index c.row-item.result c.loop-row.last c.in_ok-last.last c.requires.rising
    (omega (arith, c.loop-row-test.true)) c.row-item.is c.loop-row.invariant c.in_ok-last.ensures
