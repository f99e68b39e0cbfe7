use Rattle.std.proofs.Common.{◌≡◌, [], ◌∷◌, true, sym, ap, subst, ◌∙◌}
use Rattle.media_rows.specs.Good.{has_hook}
use Rattle.media_rows.specs.Outbox.{Outbox, with_events}
use Rattle.webhook_outbox.specs.Delivered.{IsBehind}
use Rattle.webhook_outbox.proofs.Adding.{Adds, added_is, added_kept, behind_keys, hook_is_kept}
use Rattle.webhook_outbox.proofs.outbox.Outbox.with_event.Goals as goal

-- the hook is kept
pub unreachable-requires : goal.unreachable-requires
unreachable-requires c =
    hook_is_kept c.args.row c.self.inside.slots c.self.invariant.slots_keyed (subst (λ (o : Outbox). has_hook o.hooks c.args.row ≡ true) (sym c.self.view_is)
    c.requires.hook) c.in_default.ensures

pub invariant_of-result : goal.invariant_of-result
invariant_of-result c =
    let has = subst (λ (o : Outbox). has_hook o.hooks c.args.row ≡ true) (sym c.self.view_is) c.requires.hook in
    let d : Adds c.args.row c.in-Some.slot.now _ c.self.inside.slots c.self.inside.events = record {
      kept = c.self.invariant;
      slots_rise = c.keys_rise.ensures;
      slot_is = c.in-Some.ensures;
      last = behind_keys c.args.row.serial c.self.inside.events c.self.invariant.events_keyed
          (subst (λ (o : Outbox). IsBehind c.args.row.serial o.events) (sym c.self.view_is) c.requires.last);
      marked_row = c.in_ok-marked_row.ensures;
      waits = c.in_ok-with_row.ensures;
    } in
    added_kept c.args.row c.in-Some.slot.now _ c.self.inside.slots c.in_ok-with_slot.field-0 c.self.inside.events c.in_ok-with_row-2.field-0 has d
    c.in_ok-with_slot.ensures c.in_ok-with_row-2.ensures

-- the event waits, and its hook is marked where it is full
pub returns : goal.returns
returns c =
    let d : Adds c.args.row c.in-Some.slot.now _ c.self.inside.slots c.self.inside.events = record {
      kept = c.self.invariant;
      slots_rise = c.keys_rise.ensures;
      slot_is = c.in-Some.ensures;
      last = behind_keys c.args.row.serial c.self.inside.events c.self.invariant.events_keyed
          (subst (λ (o : Outbox). IsBehind c.args.row.serial o.events) (sym c.self.view_is) c.requires.last);
      marked_row = c.in_ok-marked_row.ensures;
      waits = c.in_ok-with_row.ensures;
    } in
    added_is c.args.row c.in-Some.slot.now _ c.self.inside.slots c.in_ok-with_slot.field-0 c.self.inside.events c.in_ok-with_row-2.field-0 d
    c.in_ok-with_slot.ensures c.in_ok-with_row-2.ensures
    ∙ ap (with_events (c.args.row ∷ [])) c.self.view_is
