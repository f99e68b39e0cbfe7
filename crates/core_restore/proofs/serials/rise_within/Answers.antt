use Rattle.std.proofs.Common.{◌∙◌, arith}
use Rattle.core_restore.proofs.Rising.{one_less}
use Rattle.core_restore.proofs.serials.rise_within.Goals as goal

-- the next serial stands behind the last one
pub loop-serial-preserved : goal.loop-serial-preserved
loop-serial-preserved c =
    c.loop-serial.invariant
    ∙ one_less c.loop-serial.last c.loop-serial.serial-index c.args.next_serial c.args.serials.now (omega (arith, c.loop-serial-test.true))
    (omega (arith, c.if-serial-last.false))
