use Rattle.std.proofs.Common.{◌≡◌, IfOk, ap, sym, subst, ◌∙◌}
use Rattle.media_rows.specs.Outbox.{after_drop_hook}
use Rattle.shared_tree.specs.Pairs.{values_of}
use Rattle.webhook_outbox.specs.Within.Drops.{dropped}
use Rattle.webhook_outbox.specs.Within.Slots.{hook_rows, hooks_of}
use Rattle.webhook_outbox.proofs.Dropping.{all_dropped}
use Rattle.webhook_outbox.proofs.outbox.Outbox.drop_hook.Goals as goal

-- the hooks of the address go one by one
pub returns : goal.returns
returns c =
    let slots = ap values_of c.deref.ensures.value ∙ c.in_ok-all_slots.ensures in
    let url = c.args.url.now in
    let gone = all_dropped url c.self.inside.slots c.self.inside.events c.keys_rise.ensures c.self.invariant.slots_keyed in
    subst (λ o. IfOk c.drop_all.result (λ outbox. outbox ≡ o))
    (ap (λ l. dropped url (hook_rows l) c.args.self.now) slots ∙ ap (dropped url (hooks_of c.self.inside.slots)) (sym c.self.view_is) ∙ gone
    ∙ ap (after_drop_hook url) c.self.view_is) c.drop_all.ensures
