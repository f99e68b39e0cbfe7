use Rattle.webhook_outbox.proofs.Listing.{slot_serials}
use Rattle.webhook_outbox.proofs.lists.hook_list.Goals as goal

-- each key is a serial's
pub all_values-requires : goal.all_values-requires
all_values-requires c = record { serials = slot_serials c.args.slots.now c.requires.keyed }
