use Rattle.std.proofs.Common.{◌≡◌, sym, ap, subst, ◌∙◌}
use Rattle.media_rows.specs.declared.hook.HookRow.{HookRow}
use Rattle.media_rows.specs.Outbox.{Outbox, hook_row}
use Rattle.webhook_outbox.specs.declared.outbox.Slot.{Slot}
use Rattle.webhook_outbox.specs.Delivered.{IsBehindHooks}
use Rattle.webhook_outbox.specs.Within.Slots.{AreSlots, hook_serial, seen_outbox, with_last_hook}
use Rattle.webhook_outbox.proofs.Adding.{behind_hooks, hooked_is, hooked_slots}
use Rattle.webhook_outbox.proofs.outbox.Outbox.with_hook.Goals as goal

-- no event waits for a serial that no hook has
pub invariant_of-result : goal.invariant_of-result
invariant_of-result c =
    let slot : Slot = record { row = c.in_ok-new.field-0; waiting = c.empty.result } in
    let last = behind_hooks c.args.serial c.self.inside.slots c.self.invariant.slots_keyed
    (subst (λ (o : Outbox). IsBehindHooks c.args.serial o.hooks) (sym c.self.view_is) c.requires.last) in
    let own : hook_serial slot ≡ c.args.serial = ap (λ (r : HookRow). r.serial) c.in_ok-new.ensures.ok in
    subst (AreSlots c.in_ok-with_slot.field-0) (sym c.in_ok-share.ensures)
    (hooked_slots c.args.serial slot c.self.inside.slots c.in_ok-with_slot.field-0 c.self.inside.events c.self.invariant own c.empty.ensures last
    c.in_ok-with_slot.ensures)

pub returns : goal.returns
returns c =
    let slot : Slot = record { row = c.in_ok-new.field-0; waiting = c.empty.result } in
    let last = behind_hooks c.args.serial c.self.inside.slots c.self.invariant.slots_keyed
    (subst (λ (o : Outbox). IsBehindHooks c.args.serial o.hooks) (sym c.self.view_is) c.requires.last) in
    let row : c.in_ok-new.field-0.value ≡ hook_row c.args.hook.now c.args.serial = c.in_ok-new.ensures.ok ∙ ap (λ h. hook_row h c.args.serial)
    c.in_ok-duplicate.ensures in
    ap (seen_outbox c.in_ok-with_slot.field-0) c.in_ok-share.ensures
    ∙ hooked_is c.args.serial slot c.self.inside.slots c.in_ok-with_slot.field-0 c.self.inside.events last c.in_ok-with_slot.ensures
    ∙ ap (λ r. with_last_hook r (seen_outbox c.self.inside.slots c.self.inside.events)) row
    ∙ ap (with_last_hook (hook_row c.args.hook.now c.args.serial)) c.self.view_is
