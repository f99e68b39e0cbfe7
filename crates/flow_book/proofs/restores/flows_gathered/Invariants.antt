use Rattle.std.proofs.Common.{◌-◌, drop, length}
use Rattle.flow_book.specs.Within.Order.{AreGathered}
use Rattle.flow_book.proofs.restores.flows_gathered.Given as goal

abbrev pub invariant-loop-placed : goal.invariant-loop-placed
invariant-loop-placed l = AreGathered (drop (length l.rows - l.placed) l.rows) l.next.flows l.next.by_source l.next.collectors
