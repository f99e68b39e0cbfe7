use Rattle.std.proofs.Common.{IfSome, List, ◌≡◌, sym, ap, subst, ◌∙◌, option_copied}
use Rattle.media_rows.specs.declared.event.EventRow.{EventRow}
use Rattle.media_rows.specs.Outbox.{Outbox, waiting_for}
use Rattle.shared_tree.specs.Pairs.{first, values}
use Rattle.shared_tree.specs.Rows.{IsKeyedBy}
use Rattle.shared_tree.proofs.Counted.{all_kept}
use Rattle.webhook_outbox.specs.Within.Slots.{event_key, is_for}
use Rattle.webhook_outbox.specs.Ordered.{IsLeastFor}
use Rattle.webhook_outbox.proofs.Order.{least_found}
use Rattle.webhook_outbox.proofs.Waiting.{found_waiting, none_waiting, waiting_is}
use Rattle.webhook_outbox.proofs.outbox.Outbox.first_of.Goals as goal

-- no hook has this serial
pub returns-in_err-slot-clause-first : goal.returns-in_err-slot-clause-first
returns-in_err-slot-clause-first c =
    ap option_copied c.from_residual.ensures
    ∙ sym (ap first (ap (λ (o : Outbox). waiting_for c.args.hook o.events) (sym c.self.view_is) ∙ none_waiting c.args.hook c.self.inside.slots
    c.self.inside.events c.self.invariant c.in_err-slot.ensures))

pub first_waiting-requires : goal.first_waiting-requires
first_waiting-requires c =
    let own = found_waiting c.args.hook c.self.inside.slots c.self.inside.events c.in_ok-slot.slot.now c.self.invariant c.in_ok-slot.ensures in
    record {
      keyed = subst (IsKeyedBy event_key) (sym own.1) (all_kept (λ p. p.0 ≡ event_key p.1) (is_for c.args.hook) c.self.inside.events
          c.self.invariant.events_keyed);
    }

-- the hook has just its events
pub returns-clause-first : goal.returns-clause-first
returns-clause-first c =
    let own = found_waiting c.args.hook c.self.inside.slots c.self.inside.events c.in_ok-slot.slot.now c.self.invariant c.in_ok-slot.ensures in
    c.first_waiting.ensures
    ∙ ap first (ap values own.1 ∙ waiting_is c.args.hook c.self.inside.events ∙ ap (λ (o : Outbox). waiting_for c.args.hook o.events) c.self.view_is)

-- events stand by rising serial, and so those of the hook do
pub returns-clause-least : goal.returns-clause-least
returns-clause-least c =
    let seen : values c.self.inside.events ≡ c.args.self.now.events = ap (λ (o : Outbox). o.events) c.self.view_is in
    subst (λ (events : List EventRow). IfSome c.first_waiting.result (λ row. IsLeastFor c.args.hook events row.now)) seen
    (least_found c.args.hook c.self.inside.events c.first_waiting.result c.keys_rise.ensures c.self.invariant.events_keyed
    (returns-clause-first c ∙ ap (λ events. first (waiting_for c.args.hook events)) (sym seen)))
