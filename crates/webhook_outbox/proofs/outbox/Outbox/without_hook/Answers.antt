use Rattle.std.proofs.Common.{◌≡◌, IfOk, ap, sym, subst, ◌∙◌}
use Rattle.shared_tree.specs.Pairs.{values_of}
use Rattle.shared_tree.specs.Rows.{IsKeyedBy}
use Rattle.shared_tree.proofs.Counted.{all_kept}
use Rattle.webhook_outbox.specs.Within.Drops.{without_event_rows, without_serial}
use Rattle.webhook_outbox.specs.Within.Slots.{event_key, is_for}
use Rattle.webhook_outbox.proofs.Dropping.{Goes, gone_is, gone_slots, none_goes}
use Rattle.webhook_outbox.proofs.Listing.{event_serials}
use Rattle.webhook_outbox.proofs.Waiting.{found_waiting}
use Rattle.webhook_outbox.proofs.outbox.Outbox.without_hook.Goals as goal

-- the hook has just its events, at their keys
pub all_values-requires : goal.all_values-requires
all_values-requires c =
    let own = found_waiting c.args.serial c.self.inside.slots c.self.inside.events c.in-Some.slot.now c.self.invariant c.in-Some.ensures in
    record {
      serials = event_serials c.in-Some.slot.now.waiting (subst (IsKeyedBy event_key) (sym own.1)
          (all_kept (λ p. p.0 ≡ event_key p.1) (is_for c.args.serial) c.self.inside.events c.self.invariant.events_keyed));
    }

pub invariant_of-result : goal.invariant_of-result
invariant_of-result c =
    let rows = ap values_of c.deref.ensures.value ∙ c.in_ok-all_values-in-Some.ensures in
    let d : Goes c.args.serial c.in-Some.slot.now c.self.inside.slots c.in_ok-without_slot-in-Some.field-0 c.self.inside.events
    c.in_ok-without_rows-in-Some.field-0 = record {
      kept = c.self.invariant;
      slots_rise = c.keys_rise.ensures;
      events_rise = c.keys_rise-2.ensures;
      slot_is = c.in-Some.ensures;
      new_slots_are = c.in_ok-without_slot-in-Some.ensures;
      new_events_are = c.in_ok-without_rows-in-Some.ensures ∙ ap (λ l. without_event_rows l c.self.inside.events) rows;
    } in
    gone_slots c.args.serial c.in-Some.slot.now c.self.inside.slots c.in_ok-without_slot-in-Some.field-0 c.self.inside.events
    c.in_ok-without_rows-in-Some.field-0 d

-- the hook goes with its events
pub returns-in_ok-without_rows-in-Some : goal.returns-in_ok-without_rows-in-Some
returns-in_ok-without_rows-in-Some c =
    let rows = ap values_of c.deref.ensures.value ∙ c.in_ok-all_values-in-Some.ensures in
    let d : Goes c.args.serial c.in-Some.slot.now c.self.inside.slots c.in_ok-without_slot-in-Some.field-0 c.self.inside.events
    c.in_ok-without_rows-in-Some.field-0 = record {
      kept = c.self.invariant;
      slots_rise = c.keys_rise.ensures;
      events_rise = c.keys_rise-2.ensures;
      slot_is = c.in-Some.ensures;
      new_slots_are = c.in_ok-without_slot-in-Some.ensures;
      new_events_are = c.in_ok-without_rows-in-Some.ensures ∙ ap (λ l. without_event_rows l c.self.inside.events) rows;
    } in
    gone_is c.args.serial c.in-Some.slot.now c.self.inside.slots c.in_ok-without_slot-in-Some.field-0 c.self.inside.events
    c.in_ok-without_rows-in-Some.field-0 d
    ∙ ap (without_serial c.args.serial) c.self.view_is

-- no hook has the serial
pub returns-in-None : goal.returns-in-None
returns-in-None c =
    subst (λ o. IfOk c.share.result (λ next. next ≡ o))
    (subst (λ o. o ≡ without_serial c.args.serial o) c.self.view_is (none_goes c.args.serial c.self.inside.slots c.self.inside.events c.self.invariant
    c.in-None.ensures)) c.share.ensures
