use Rattle.std.proofs.Common.{◌≡◌, ◌++◌, drop, map}
use Rattle.flow_book.specs.Within.Order.{flow_id}
use Rattle.flow_book.proofs.peeling.flow_ids.Given as goal

abbrev pub invariant-loop-row : goal.invariant-loop-row
invariant-loop-row l = l.ids.items ++ map flow_id (drop l.row-index l.rows) ≡ map flow_id l.rows
