use Rattle.std.proofs.Common.{sym, ◌∙◌}
use Rattle.store_commands.proofs.WorkloadLemmas.{heard_one}
use Rattle.store_commands.proofs.generating.has_heard.Goals as goal

-- One peer came.
pub returns-then-has_ended : goal.returns-then-has_ended
returns-then-has_ended c = λ yes.
    heard_one _ c.heard.result.now c.args.bytes.now (sym c.connections.ensures ∙ c.if-connections-ne1.false)
    (rw c.if-has_ended.true at c.has_ended.ensures) c.heard.ensures (c.same_bytes.ensures.0 yes)
