use Rattle.std.proofs.Common.{take}
use Rattle.range_edit.specs.Within.Cutting.{Adds, takings_by}
use Rattle.range_edit.proofs.pieces.take_page.Given as goal

-- the pieces of the segments so far were added
abbrev pub invariant-loop-row : goal.invariant-loop-row
invariant-loop-row l = Adds (takings_by l.clip (take l.row-index l.rows)) l.fn.pieces l.pieces
