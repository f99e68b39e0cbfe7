use Rattle.std.proofs.Common.{◌≡◌, drop}
use Rattle.media_rows.specs.Outbox.{hook_of}
use Rattle.shared_tree.specs.Pairs.{values_of}
use Rattle.webhook_outbox.specs.Within.Slots.{hook_rows}
use Rattle.webhook_outbox.proofs.looks.hook_of.Given as goal

abbrev pub invariant-loop-slot : goal.invariant-loop-slot
invariant-loop-slot l = hook_of l.url (hook_rows (values_of (drop l.slot-index l.slots))) ≡ hook_of l.url (hook_rows (values_of l.slots))
