use Rattle.std.proofs.Common.{◌≡◌, take}
use Rattle.core_rows.specs.Kinds.{kinds_of}
use Rattle.core_rows.proofs.kinds.part_rows.Given as goal

abbrev pub invariant-loop-row : goal.invariant-loop-row
invariant-loop-row l = l.kinds ≡ kinds_of (take l.row-index l.row-items)
