use Rattle.std.proofs.Common.{sym, arith}
use Rattle.time_range.proofs.Machines.{run_more}
use Rattle.time_range.proofs.scanning.scan_all.Goals as goal

pub loop-at-preserved : goal.loop-at-preserved
loop-at-preserved g c = run_more g.S.Scan.next _ _ _ _ c.loop-at.at (omega arith) c.loop-at.invariant (sym c.in-Some.ensures)
