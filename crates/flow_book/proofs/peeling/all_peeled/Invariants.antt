use Rattle.std.proofs.Common.{◌+◌, length}
use Rattle.flow_book.specs.Within.Peeling.{IsPeeled, weight}
use Rattle.flow_book.proofs.peeling.all_peeled.Given as goal

abbrev pub invariant-loop-id : goal.invariant-loop-id
invariant-loop-id l = IsPeeled l.rows l.left.flows l.left.collectors l.waiting.items

abbrev pub decreases-loop-id : goal.decreases-loop-id
decreases-loop-id l = length l.waiting.items + weight l.left.flows
