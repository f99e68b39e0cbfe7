use Rattle.std.proofs.Common.{map, take}
use Rattle.core_rows.specs.Texts.{AddsRows}
use Rattle.core_rows.proofs.texts.add_rows.Given as goal

abbrev pub invariant-loop-item : goal.invariant-loop-item
invariant-loop-item g l = AddsRows l.fn.text (map g.T.AnyRow.as_row (take l.item-index l.list)) l.text
