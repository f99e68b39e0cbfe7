use Rattle.std.proofs.Common.{take}
use Rattle.core_restore.specs.Within.{AreLast}
use Rattle.core_restore.proofs.ties.last_serials.Given as goal

abbrev pub invariant-loop-row : goal.invariant-loop-row
invariant-loop-row l = AreLast (take l.row-index l.segments) l.last
