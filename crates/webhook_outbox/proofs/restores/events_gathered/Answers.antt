use Rattle.std.proofs.Common.{◌≡◌, ◌∷◌, ◌-◌, ◌+◌, drop, length, arith}
use Rattle.webhook_outbox.specs.Within.Restored.{all_fit, folded, waits, may_wait}
use Rattle.media_rows.proofs.RestoringLemmas.{handed_on, one_more}
use Rattle.webhook_outbox.proofs.Restoring.{gathers_more, not_gathered}
use Rattle.webhook_outbox.proofs.restores.events_gathered.Goals as goal

-- an event that may not wait refuses all
pub returns-in-Err : goal.returns-in-Err
returns-in-Err c =
    let all = c.args.events.now in
    let row = c.index-events-events.result in
    let shape : drop (length all - (c.loop-passed.passed + 1)) all ≡ row ∷ drop (length all - c.loop-passed.passed) all =
    one_more all c.loop-passed.passed row (omega (arith, c.loop-passed-test.true)) c.index-events-events.is in
    handed_on c.in-Err.fault (may_wait row c.loop-passed.outbox) (all_fit may_wait waits all c.args.bare.now) (waits row c.loop-passed.outbox)
    (folded waits all c.args.bare.now)
    (λ new. not_gathered may_wait waits (length all - (c.loop-passed.passed + 1)) row (drop (length all - c.loop-passed.passed) all) all c.args.bare.now
    c.loop-passed.outbox c.loop-passed.invariant new shape) c.in-Err.ensures

-- an event that may wait stands at its place
pub loop-passed-preserved : goal.loop-passed-preserved
loop-passed-preserved c =
    let all = c.args.events.now in
    let row = c.index-events-events.result in
    let shape : drop (length all - (c.loop-passed.passed + 1)) all ≡ row ∷ drop (length all - c.loop-passed.passed) all =
    one_more all c.loop-passed.passed row (omega (arith, c.loop-passed-test.true)) c.index-events-events.is in
    gathers_more may_wait waits row (drop (length all - c.loop-passed.passed) all) (drop (length all - (c.loop-passed.passed + 1)) all) c.args.bare.now
    c.loop-passed.outbox c.in-Ok.next c.loop-passed.invariant c.in-Ok.ensures.0 c.in-Ok.ensures.1 shape
