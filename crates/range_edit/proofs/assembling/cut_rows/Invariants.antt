use Rattle.std.proofs.Common.{take}
use Rattle.range_edit.specs.Within.Cutting.{HasCut}
use Rattle.range_edit.proofs.assembling.cut_rows.Given as goal

-- the rows so far are cut
abbrev pub invariant-loop-row : goal.invariant-loop-row
invariant-loop-row l = HasCut l.core.library l.target.flow (take l.row-index l.rows) l.cutting
