use Rattle.std.proofs.Common.{◌≡◌, ◌∷◌, ◌-◌, ◌+◌, drop, length, arith}
use Rattle.webhook_outbox.specs.Within.Restored.{all_fit, folded, with_hook_joined, may_join, no_rows}
use Rattle.media_rows.proofs.RestoringLemmas.{handed_on, one_more}
use Rattle.webhook_outbox.proofs.Restoring.{gathers_more, not_gathered}
use Rattle.webhook_outbox.proofs.restores.hooks_gathered.Goals as goal

-- a serial that stands again refuses all
pub returns-in-Err : goal.returns-in-Err
returns-in-Err c =
    let all = c.args.hooks.now in
    let row = c.index-hooks-hooks.result in
    let shape : drop (length all - (c.loop-passed.passed + 1)) all ≡ row ∷ drop (length all - c.loop-passed.passed) all =
    one_more all c.loop-passed.passed row (omega (arith, c.loop-passed-test.true)) c.index-hooks-hooks.is in
    handed_on c.in-Err.fault (may_join row c.loop-passed.outbox) (all_fit may_join with_hook_joined all no_rows) (with_hook_joined row c.loop-passed.outbox)
    (folded with_hook_joined all no_rows)
    (λ new. not_gathered may_join with_hook_joined (length all - (c.loop-passed.passed + 1)) row (drop (length all - c.loop-passed.passed) all) all no_rows
    c.loop-passed.outbox c.loop-passed.invariant new shape) c.in-Err.ensures

-- a hook whose serial is new stands at its place
pub loop-passed-preserved : goal.loop-passed-preserved
loop-passed-preserved c =
    let all = c.args.hooks.now in
    let row = c.index-hooks-hooks.result in
    let shape : drop (length all - (c.loop-passed.passed + 1)) all ≡ row ∷ drop (length all - c.loop-passed.passed) all =
    one_more all c.loop-passed.passed row (omega (arith, c.loop-passed-test.true)) c.index-hooks-hooks.is in
    gathers_more may_join with_hook_joined row (drop (length all - c.loop-passed.passed) all) (drop (length all - (c.loop-passed.passed + 1)) all) no_rows
    c.loop-passed.outbox c.in-Ok.next c.loop-passed.invariant c.in-Ok.ensures.0 c.in-Ok.ensures.1 shape
