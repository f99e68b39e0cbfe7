use Rattle.std.proofs.Common.{◌≡◌, ◌++◌, map, take}
use Rattle.core_restore.proofs.serials.append_serials.Given as goal

abbrev pub invariant-loop-row : goal.invariant-loop-row
invariant-loop-row g l = l.serials.items ≡ l.fn.serials.items ++ map g.T.Numbered.serial_of (take l.row-index l.rows)
