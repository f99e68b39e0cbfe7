use Rattle.std.proofs.Common.{◌+◌, length}
use Rattle.flow_book.specs.Within.Ways.{AreFollowed}
use Rattle.flow_book.proofs.circles.apart_from.Given as goal

abbrev pub invariant-loop-next : goal.invariant-loop-next
invariant-loop-next l = AreFollowed l.flows l.apart l.id l.waiting.items

abbrev pub decreases-loop-next : goal.decreases-loop-next
decreases-loop-next l = length l.apart + length l.waiting.items
