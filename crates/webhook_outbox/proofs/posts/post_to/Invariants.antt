use Rattle.std.proofs.Common.{drop}
use Rattle.shared_tree.specs.Pairs.{values_of}
use Rattle.webhook_outbox.specs.Within.Slots.{hook_rows}
use Rattle.webhook_outbox.proofs.Posting.{Told}
use Rattle.webhook_outbox.proofs.posts.post_to.Given as goal

abbrev pub invariant-loop-slot : goal.invariant-loop-slot
invariant-loop-slot l =
    Told l.happened l.now (hook_rows (values_of l.takers)) (hook_rows (values_of (drop l.slot-index l.takers)))
    (record { outbox = l.outbox; next = l.serial }) l.next l.free
