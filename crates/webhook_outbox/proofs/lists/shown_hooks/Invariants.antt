use Rattle.std.proofs.Common.{◌≡◌, ◌++◌, drop, map}
use Rattle.shared_tree.specs.Pairs.{values_of}
use Rattle.webhook_outbox.specs.Within.Slots.{shown_slot}
use Rattle.webhook_outbox.proofs.lists.shown_hooks.Given as goal

abbrev pub invariant-loop-slot : goal.invariant-loop-slot
invariant-loop-slot l = l.list ++ map shown_slot (values_of (drop l.slot-index l.slots)) ≡ map shown_slot (values_of l.slots)
