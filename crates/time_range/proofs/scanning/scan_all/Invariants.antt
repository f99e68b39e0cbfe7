use Rattle.std.proofs.Common.{◌≡◌, Some, take}
use Rattle.time_range.specs.Within.Scanning.{run}
use Rattle.time_range.proofs.scanning.scan_all.Given as goal

abbrev pub invariant-loop-at : goal.invariant-loop-at
invariant-loop-at g l = run g.S.Scan.next l.fn.start (take l.at l.text) ≡ Some l.scan
