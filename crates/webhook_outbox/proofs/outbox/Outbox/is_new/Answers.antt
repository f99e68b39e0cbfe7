use Rattle.std.proofs.Common.{◌≡◌, pos, true, false, not, ◌&&◌, is_some, ap, sym, ◌∙◌}
use Rattle.shared_tree.specs.Pairs.{value_at}
use Rattle.webhook_outbox.specs.Within.Restored.{has_no_serial}
use Rattle.webhook_outbox.proofs.Placing.{is_new_is, told_none}
use Rattle.webhook_outbox.proofs.outbox.Outbox.is_new.Goals as goal

-- no hook has the serial
pub returns-then-is_none : goal.returns-then-is_none
returns-then-is_none c =
    let slots = c.self.inside.slots in
    let events = c.self.inside.events in
    let no_hook : not (is_some (value_at (pos c.args.serial) slots)) ≡ true =
    sym (told_none c.value_at.result (value_at (pos c.args.serial) slots) c.is_none.result c.is_none.ensures c.value_at.ensures) ∙ c.if-is_none.true in
    let no_event : c.is_none-then-is_none.result ≡ not (is_some (value_at (pos c.args.serial) events)) =
    told_none c.value_at-then-is_none.result (value_at (pos c.args.serial) events) c.is_none-then-is_none.result c.is_none-then-is_none.ensures
    c.value_at-then-is_none.ensures in
    no_event
    ∙ sym (is_new_is c.args.serial slots events c.self.invariant.slots_keyed c.self.invariant.events_keyed
    ∙ ap (λ b. b && not (is_some (value_at (pos c.args.serial) events))) no_hook)
    ∙ ap (has_no_serial c.args.serial) c.self.view_is

-- a hook has it
pub returns-else-is_none : goal.returns-else-is_none
returns-else-is_none c =
    let slots = c.self.inside.slots in
    let events = c.self.inside.events in
    let a_hook : not (is_some (value_at (pos c.args.serial) slots)) ≡ false =
    sym (told_none c.value_at.result (value_at (pos c.args.serial) slots) c.is_none.result c.is_none.ensures c.value_at.ensures) ∙ c.if-is_none.false in
    c.if-is_none.false
    ∙ sym (is_new_is c.args.serial slots events c.self.invariant.slots_keyed c.self.invariant.events_keyed
    ∙ ap (λ b. b && not (is_some (value_at (pos c.args.serial) events))) a_hook)
    ∙ ap (has_no_serial c.args.serial) c.self.view_is
