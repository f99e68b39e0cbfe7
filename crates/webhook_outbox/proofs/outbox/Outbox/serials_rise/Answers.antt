use Rattle.std.proofs.Common.{subst}
use Rattle.media_rows.specs.Outbox.{Outbox}
use Rattle.webhook_outbox.specs.Ordered.{EventsRise, HooksRise}
use Rattle.webhook_outbox.proofs.Order.{events_rise, hooks_rise}
use Rattle.webhook_outbox.proofs.outbox.Outbox.serials_rise.Goals as goal

-- each stands at the key of its serial, and keys rise
pub returns-clause-hooks : goal.returns-clause-hooks
returns-clause-hooks c =
    subst (λ (o : Outbox). HooksRise o.hooks) c.self.view_is (hooks_rise c.self.inside.slots c.keys_rise.ensures c.self.invariant.slots_keyed)

pub returns-clause-events : goal.returns-clause-events
returns-clause-events c =
    subst (λ (o : Outbox). EventsRise o.events) c.self.view_is (events_rise c.self.inside.events c.keys_rise-2.ensures c.self.invariant.events_keyed)
