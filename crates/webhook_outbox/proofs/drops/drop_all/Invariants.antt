use Rattle.std.proofs.Common.{◌≡◌, drop}
use Rattle.shared_tree.specs.Pairs.{values_of}
use Rattle.webhook_outbox.specs.Within.Drops.{dropped}
use Rattle.webhook_outbox.specs.Within.Slots.{hook_rows}
use Rattle.webhook_outbox.proofs.drops.drop_all.Given as goal

abbrev pub invariant-loop-slot : goal.invariant-loop-slot
invariant-loop-slot l =
    dropped l.url (hook_rows (values_of (drop l.slot-index l.slots))) l.next ≡ dropped l.url (hook_rows (values_of l.slots)) l.outbox
