use Rattle.std.proofs.Common.{◌≡◌, IfOk, filter, ap, subst, ◌∙◌}
use Rattle.media_rows.specs.Outbox.{Outbox, takes}
use Rattle.shared_tree.specs.Pairs.{values_of}
use Rattle.webhook_outbox.specs.Within.Slots.{hook_rows}
use Rattle.webhook_outbox.proofs.outbox.Outbox.takers.Goals as goal

-- the hooks are all
pub returns : goal.returns
returns c =
    let slots = ap values_of c.deref.ensures.value ∙ c.in_ok-all_slots.ensures in
    subst (λ rows. IfOk c.takers.result (λ list. hook_rows (values_of list.items) ≡ filter (takes c.args.happened.now) rows))
    (ap hook_rows slots ∙ ap (λ (o : Outbox). o.hooks) c.self.view_is) c.takers.ensures
