use Rattle.std.proofs.Common.{sym, ap, subst, ◌∙◌}
use Rattle.std.specs.Prelude.{IsTrue}
use Rattle.media_rows.specs.Outbox.{Outbox, after_delivered, waits_first}
use Rattle.webhook_outbox.specs.Within.Slots.{AreSlots}
use Rattle.webhook_outbox.proofs.Waiting.{Delivers, delivered_is, delivered_slots, event_is_there, hook_is_there}
use Rattle.webhook_outbox.proofs.outbox.Outbox.delivered.Goals as goal

-- the event waits
pub unreachable-requires : goal.unreachable-requires
unreachable-requires c =
    event_is_there c.args.event c.self.inside.events c.self.invariant.events_keyed (subst (λ (o : Outbox). IsTrue (waits_first c.args.event o.events))
    (sym c.self.view_is)
    c.requires.first) c.in_default.ensures

-- for a hook that is kept
pub unreachable-requires-in_default-value_at : goal.unreachable-requires-in_default-value_at
unreachable-requires-in_default-value_at c =
    hook_is_there c.args.event c.in-Some.row.now c.self.inside.slots c.self.inside.events c.self.invariant c.in-Some.ensures c.in_default-value_at.ensures

-- the others stay as they were
pub invariant_of-result : goal.invariant_of-result
invariant_of-result c =
    let d : Delivers c.args.event c.in-Some.row.now c.in-Some-value_at.slot.now _ c.self.inside.slots c.self.inside.events = record {
      kept = c.self.invariant;
      slots_rise = c.keys_rise.ensures;
      events_rise = c.keys_rise-2.ensures;
      row_is = c.in-Some.ensures;
      slot_is = c.in-Some-value_at.ensures;
      same_row = c.in_ok-clone.ensures.cases;
      fewer = c.in_ok-without_event.ensures;
    } in
    subst (λ slots. AreSlots slots c.in_ok-without_event-2.field-0) (sym c.in_ok-with_slot.ensures)
    (subst (AreSlots _) (sym c.in_ok-without_event-2.ensures) (delivered_slots c.args.event c.in-Some.row.now c.in-Some-value_at.slot.now _ c.self.inside.slots
    c.self.inside.events d))

pub returns : goal.returns
returns c =
    let d : Delivers c.args.event c.in-Some.row.now c.in-Some-value_at.slot.now _ c.self.inside.slots c.self.inside.events = record {
      kept = c.self.invariant;
      slots_rise = c.keys_rise.ensures;
      events_rise = c.keys_rise-2.ensures;
      row_is = c.in-Some.ensures;
      slot_is = c.in-Some-value_at.ensures;
      same_row = c.in_ok-clone.ensures.cases;
      fewer = c.in_ok-without_event.ensures;
    } in
    delivered_is c.args.event c.in-Some.row.now c.in-Some-value_at.slot.now _ c.self.inside.slots c.self.inside.events c.in_ok-with_slot.field-0
    c.in_ok-without_event-2.field-0 d c.in_ok-with_slot.ensures c.in_ok-without_event-2.ensures
    ∙ ap (after_delivered c.args.event) c.self.view_is
