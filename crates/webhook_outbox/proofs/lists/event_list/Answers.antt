use Rattle.webhook_outbox.proofs.Listing.{event_serials}
use Rattle.webhook_outbox.proofs.lists.event_list.Goals as goal

-- each key is a serial's
pub all_values-requires : goal.all_values-requires
all_values-requires c = record { serials = event_serials c.args.events.now c.requires.keyed }
