use Rattle.std.proofs.Common.{◌≡◌, drop}
use Rattle.shared_tree.specs.Pairs.{values_of}
use Rattle.flow_book.specs.Within.Order.{cleared}
use Rattle.flow_book.proofs.drops.entries_cleared.Given as goal

abbrev pub invariant-loop-row : goal.invariant-loop-row
invariant-loop-row l = cleared l.id (values_of (drop l.row-index l.rows)) l.next ≡ cleared l.id (values_of l.rows) l.flows
