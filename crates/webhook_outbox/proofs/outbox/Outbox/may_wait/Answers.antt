use Rattle.std.proofs.Common.{◌≡◌, true, ◌&&◌, ap, sym, ◌∙◌}
use Rattle.webhook_outbox.specs.Within.Restored.{has_no_serial, may_wait}
use Rattle.webhook_outbox.specs.Within.Slots.{seen_outbox, slot_has_room}
use Rattle.webhook_outbox.proofs.Placing.{may_wait_is, none_may_wait}
use Rattle.webhook_outbox.proofs.outbox.Outbox.may_wait.Goals as goal

-- the serial is new, so the hook's room tells
pub returns-then-is_new : goal.returns-then-is_new
returns-then-is_new c =
    let row = c.args.row.now in
    let slots = c.self.inside.slots in
    let events = c.self.inside.events in
    let new : has_no_serial row.serial (seen_outbox slots events) ≡ true = ap (has_no_serial row.serial) c.self.view_is ∙ sym c.is_new.ensures
    ∙ c.if-is_new.true in
    c.has_room.ensures
    ∙ sym (may_wait_is row c.in-Some.slot.now slots events c.self.invariant c.keys_rise.ensures c.in-Some.ensures
    ∙ ap (λ b. b && slot_has_room c.in-Some.slot.now) new)
    ∙ ap (may_wait row) c.self.view_is

-- no hook has the serial that the event names
pub returns-in-None : goal.returns-in-None
returns-in-None c =
    sym (none_may_wait c.args.row.now c.self.inside.slots c.self.inside.events c.self.invariant c.in-None.ensures) ∙ ap (may_wait c.args.row.now) c.self.view_is
