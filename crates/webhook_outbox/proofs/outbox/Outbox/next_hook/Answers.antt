use Rattle.std.proofs.Common.{Some, None, ap, subst, ◌∙◌, option_copied}
use Rattle.media_rows.specs.Outbox.{Outbox}
use Rattle.webhook_outbox.specs.Ordered.{HooksRise, next_hook}
use Rattle.webhook_outbox.proofs.Next.{next_found, next_least}
use Rattle.webhook_outbox.proofs.Order.{hooks_rise}
use Rattle.webhook_outbox.proofs.outbox.Outbox.next_hook.Goals as goal

-- no hook has a serial above this one
pub returns-in_err-slot-clause-next : goal.returns-in_err-slot-clause-next
returns-in_err-slot-clause-next c =
    ap option_copied c.from_residual.ensures
    ∙ next_found c.args.after c.self.inside.slots None c.self.invariant.slots_keyed c.in_err-slot.ensures
    ∙ ap (λ (o : Outbox). next_hook c.args.after o.hooks) c.self.view_is

-- the row is that of the hook that was found
pub returns-clause-next : goal.returns-clause-next
returns-clause-next c =
    ap Some c.deref.ensures
    ∙ next_found c.args.after c.self.inside.slots (Some c.in_ok-slot.slot.now) c.self.invariant.slots_keyed c.in_ok-slot.ensures
    ∙ ap (λ (o : Outbox). next_hook c.args.after o.hooks) c.self.view_is

-- hooks stand by rising serial
pub returns-clause-least : goal.returns-clause-least
returns-clause-least c =
    next_least c.args.after c.args.self.now.hooks c.deref.result.now
    (subst (λ (o : Outbox). HooksRise o.hooks) c.self.view_is (hooks_rise c.self.inside.slots c.keys_rise.ensures c.self.invariant.slots_keyed))
    (returns-clause-next c)
