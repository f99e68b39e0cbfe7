use Rattle.std.proofs.Common.{◌≡◌, ◌++◌, drop, filter}
use Rattle.media_rows.specs.Outbox.{takes}
use Rattle.shared_tree.specs.Pairs.{values_of}
use Rattle.webhook_outbox.specs.Within.Slots.{hook_rows}
use Rattle.webhook_outbox.proofs.posts.takers.Given as goal

abbrev pub invariant-loop-slot : goal.invariant-loop-slot
invariant-loop-slot l =
    hook_rows (values_of l.list.items) ++ filter (takes l.happened) (hook_rows (values_of (drop l.slot-index l.slots))) ≡ filter (takes l.happened)
    (hook_rows (values_of l.slots))
