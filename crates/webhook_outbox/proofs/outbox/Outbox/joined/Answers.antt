use Rattle.std.proofs.Common.{◌≡◌, true, ap, sym, subst, ◌∙◌}
use Rattle.webhook_outbox.specs.declared.outbox.Slot.{Slot}
use Rattle.webhook_outbox.specs.Within.Restored.{with_hook_joined, may_join}
use Rattle.webhook_outbox.specs.Within.Slots.{AreSlots, seen_outbox}
use Rattle.webhook_outbox.proofs.Placing.{Joins, joined_is, joined_slots, new_joins}
use Rattle.webhook_outbox.proofs.outbox.Outbox.joined.Goals as goal

-- nothing waits for a serial that no hook has
pub invariant_of-result : goal.invariant_of-result
invariant_of-result c =
    let row = c.args.row.now in
    let slots = c.self.inside.slots in
    let events = c.self.inside.events in
    let slot : Slot = record { row = c.in_ok-new.field-0; waiting = c.empty.result } in
    let d : Joins row slot slots events = record {
      kept = c.self.invariant;
      slots_rise = c.keys_rise.ensures;
      new = new_joins row slots events c.self.invariant.slots_keyed (subst (λ o. may_join row o ≡ true) (sym c.self.view_is) c.requires.new);
      row_is = c.in_ok-new.ensures.ok ∙ c.in_ok-duplicate.ensures;
      empty = c.empty.ensures;
    } in
    subst (AreSlots c.in_ok-with_slot.field-0) (sym c.in_ok-share.ensures)
    (joined_slots row slot slots c.in_ok-with_slot.field-0 events d c.in_ok-with_slot.ensures)

-- the hook stands at its place
pub returns : goal.returns
returns c =
    let row = c.args.row.now in
    let slots = c.self.inside.slots in
    let events = c.self.inside.events in
    let slot : Slot = record { row = c.in_ok-new.field-0; waiting = c.empty.result } in
    let d : Joins row slot slots events = record {
      kept = c.self.invariant;
      slots_rise = c.keys_rise.ensures;
      new = new_joins row slots events c.self.invariant.slots_keyed (subst (λ o. may_join row o ≡ true) (sym c.self.view_is) c.requires.new);
      row_is = c.in_ok-new.ensures.ok ∙ c.in_ok-duplicate.ensures;
      empty = c.empty.ensures;
    } in
    ap (seen_outbox c.in_ok-with_slot.field-0) c.in_ok-share.ensures
    ∙ joined_is row slot slots c.in_ok-with_slot.field-0 events d c.in_ok-with_slot.ensures ∙ ap (with_hook_joined row) c.self.view_is
