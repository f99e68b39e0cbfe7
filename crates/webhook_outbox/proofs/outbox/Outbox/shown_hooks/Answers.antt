use Rattle.std.proofs.Common.{◌≡◌, IfOk, map, ap, subst, ◌∙◌}
use Rattle.media_rows.specs.Outbox.{Outbox}
use Rattle.webhook_outbox.specs.Posting.{shown_in}
use Rattle.webhook_outbox.proofs.Listing.{all_shown}
use Rattle.webhook_outbox.proofs.outbox.Outbox.shown_hooks.Goals as goal

-- each hook has just its events
pub returns : goal.returns
returns c =
    subst (λ rows. IfOk c.shown_list.result (λ list. list ≡ rows))
    (all_shown c.self.inside.slots c.self.inside.events c.self.invariant ∙ ap (λ (o : Outbox). map (shown_in o) o.hooks) c.self.view_is) c.shown_list.ensures
