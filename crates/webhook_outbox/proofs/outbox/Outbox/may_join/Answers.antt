use Rattle.std.proofs.Common.{pos, ap, sym, ◌∙◌}
use Rattle.shared_tree.specs.Pairs.{value_at}
use Rattle.webhook_outbox.specs.Within.Restored.{may_join}
use Rattle.webhook_outbox.proofs.Placing.{may_join_is, told_none}
use Rattle.webhook_outbox.proofs.outbox.Outbox.may_join.Goals as goal

-- no hook stands at the serial
pub returns : goal.returns
returns c =
    told_none c.value_at.result (value_at (pos c.args.row.now.serial) c.self.inside.slots) c.is_none.result c.is_none.ensures c.value_at.ensures
    ∙ sym (may_join_is c.args.row.now c.self.inside.slots c.self.inside.events c.self.invariant.slots_keyed)
    ∙ ap (may_join c.args.row.now) c.self.view_is
