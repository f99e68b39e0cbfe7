use Rattle.std.proofs.Common.{List, ◌≡◌, Some, None, sym, ap, subst, ◌∙◌}
use Rattle.media_rows.specs.declared.event.EventRow.{EventRow}
use Rattle.media_rows.specs.Outbox.{Outbox, waiting_for, waits_first}
use Rattle.shared_tree.specs.Pairs.{first, values}
use Rattle.webhook_outbox.specs.Ordered.{IsLeastFor}
use Rattle.webhook_outbox.proofs.Firsts.{first_is, none_is_first, some_first}
use Rattle.webhook_outbox.proofs.outbox.Outbox.waits_first.Goals as goal

-- no event has the serial
pub returns-in_default : goal.returns-in_default
returns-in_default c =
    sym (none_is_first c.args.event c.self.inside.events c.self.invariant.events_keyed c.in_default.ensures)
    ∙ ap (λ (o : Outbox). waits_first c.args.event o.events) c.self.view_is

-- the first of its hook may have it
pub returns-in-Some-first_of : goal.returns-in-Some-first_of
returns-in-Some-first_of c =
    let seen : values c.self.inside.events ≡ c.args.self.now.events = ap (λ (o : Outbox). o.events) c.self.view_is in
    let row = c.in-Some.row.now in
    let found = c.in-Some-first_of.first.now in
    let at = subst (λ (events : List EventRow). Some found ≡ first (waiting_for row.hook events)) (sym seen) c.in-Some-first_of.ensures.first in
    let least = subst (λ (events : List EventRow). IsLeastFor row.hook events found) (sym seen) c.in-Some-first_of.ensures.least in
    sym (first_is c.args.event row c.self.inside.events c.keys_rise.ensures c.self.invariant.events_keyed (sym c.in-Some.ensures) found at least)
    ∙ ap (λ (o : Outbox). waits_first c.args.event o.events) c.self.view_is

-- some event waits for the hook of one that waits
pub returns-in-None : goal.returns-in-None
returns-in-None c =
    let seen : values c.self.inside.events ≡ c.args.self.now.events = ap (λ (o : Outbox). o.events) c.self.view_is in
    let row = c.in-Some.row.now in
    absurd (some_first c.args.event row c.self.inside.events c.keys_rise.ensures c.self.invariant.events_keyed (sym c.in-Some.ensures)
    (subst (λ (events : List EventRow). None ≡ first (waiting_for row.hook events)) (sym seen) c.in-None.ensures.first))
