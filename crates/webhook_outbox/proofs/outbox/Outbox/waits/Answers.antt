use Rattle.std.proofs.Common.{◌≡◌, true, ap, sym, subst, ◌∙◌}
use Rattle.webhook_outbox.specs.Within.Restored.{may_wait, waits}
use Rattle.webhook_outbox.specs.declared.outbox.Slot.{Slot}
use Rattle.webhook_outbox.proofs.Placing.{Waits, hook_there, may_is, waits_is, waits_slots}
use Rattle.webhook_outbox.proofs.outbox.Outbox.waits.Goals as goal

-- the hook is kept
pub unreachable-requires : goal.unreachable-requires
unreachable-requires c =
    hook_there c.args.row.now c.self.inside.slots c.self.inside.events c.self.invariant (subst (λ o. may_wait c.args.row.now o ≡ true) (sym c.self.view_is)
    c.requires.may) c.in_default.ensures

pub invariant_of-result : goal.invariant_of-result
invariant_of-result c =
    let row = c.args.row.now in
    let slots = c.self.inside.slots in
    let events = c.self.inside.events in
    let more : Slot = record { row = c.in_ok-clone.field-0; waiting = c.in_ok-with_row.field-0 } in
    let told = may_is row c.in-Some.slot.now slots events c.self.invariant c.keys_rise.ensures c.in-Some.ensures
    (subst (λ o. may_wait row o ≡ true) (sym c.self.view_is) c.requires.may) in
    let d : Waits row c.in-Some.slot.now more slots events = record {
      kept = c.self.invariant;
      slots_rise = c.keys_rise.ensures;
      events_rise = c.keys_rise-2.ensures;
      other_hooks = told.0.0;
      other_events = told.0.1;
      slot_is = c.in-Some.ensures;
      room = told.1;
      same_row = c.in_ok-clone.ensures.cases;
      more_is = c.in_ok-with_row.ensures;
    } in
    waits_slots row c.in-Some.slot.now more slots c.in_ok-with_slot.field-0 events c.in_ok-with_row-2.field-0 d c.in_ok-with_slot.ensures
    c.in_ok-with_row-2.ensures

-- the event stands at its place
pub returns : goal.returns
returns c =
    let row = c.args.row.now in
    let slots = c.self.inside.slots in
    let events = c.self.inside.events in
    let more : Slot = record { row = c.in_ok-clone.field-0; waiting = c.in_ok-with_row.field-0 } in
    let told = may_is row c.in-Some.slot.now slots events c.self.invariant c.keys_rise.ensures c.in-Some.ensures
    (subst (λ o. may_wait row o ≡ true) (sym c.self.view_is) c.requires.may) in
    let d : Waits row c.in-Some.slot.now more slots events = record {
      kept = c.self.invariant;
      slots_rise = c.keys_rise.ensures;
      events_rise = c.keys_rise-2.ensures;
      other_hooks = told.0.0;
      other_events = told.0.1;
      slot_is = c.in-Some.ensures;
      room = told.1;
      same_row = c.in_ok-clone.ensures.cases;
      more_is = c.in_ok-with_row.ensures;
    } in
    waits_is row c.in-Some.slot.now more slots c.in_ok-with_slot.field-0 events c.in_ok-with_row-2.field-0 d c.in_ok-with_slot.ensures
    c.in_ok-with_row-2.ensures ∙ ap (waits row) c.self.view_is
