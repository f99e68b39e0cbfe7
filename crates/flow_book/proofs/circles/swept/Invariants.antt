use Rattle.std.proofs.Common.{◌≡◌, drop}
use Rattle.shared_tree.specs.Pairs.{values_of}
use Rattle.flow_book.specs.Within.Ways.{moved_to_waiting}
use Rattle.flow_book.proofs.circles.swept.Given as goal

abbrev pub invariant-loop-id : goal.invariant-loop-id
invariant-loop-id l = moved_to_waiting (values_of (drop l.id-index l.ids)) l.left l.waiting.items ≡ moved_to_waiting
    (values_of l.ids) l.apart l.fn.waiting.items
