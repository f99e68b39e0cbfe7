use Rattle.std.proofs.Common.{◌≡◌, ◌∷◌, ◌-◌, ◌+◌, drop, length, ap, sym, ◌∙◌, arith}
use Rattle.media_rows.specs.declared.hook.HookRow.{HookRow}
use Rattle.webhook_outbox.proofs.Addresses.{has_key, seen_more, seen_twice, was_new, was_there}
use Rattle.media_rows.proofs.RestoringLemmas.{one_more}
use Rattle.webhook_outbox.proofs.restores.are_urls_distinct.Goals as goal

-- an address that was seen stands twice
pub returns-then-not-branch : goal.returns-then-not-branch
returns-then-not-branch c =
    let all = c.args.hooks.now in
    let row = c.index-hooks-hooks.result in
    let keys = c.loop-passed.seen.keys in
    let key = c.bytes.result in
    let shape : drop (length all - (c.loop-passed.passed + 1)) all ≡ row ∷ drop (length all - c.loop-passed.passed) all =
    one_more all c.loop-passed.passed row (omega (arith, c.loop-passed-test.true)) c.index-hooks-hooks.is in
    let address : key.now ≡ row.hook.url = c.bytes.ensures ∙ ap (λ (h : HookRow). h.hook.url) (sym c.index-hooks-hooks.is) in
    sym (seen_twice (length all - (c.loop-passed.passed + 1)) row (drop (length all - c.loop-passed.passed) all) all key keys c.loop-passed.invariant
    address (was_there c.in_ok-insert.field-0 (has_key keys key) c.in_ok-insert.ensures.added c.if-not-branch.true) shape)

-- an address that is new is seen
pub loop-passed-preserved : goal.loop-passed-preserved
loop-passed-preserved c =
    let all = c.args.hooks.now in
    let row = c.index-hooks-hooks.result in
    let keys = c.loop-passed.seen.keys in
    let key = c.bytes.result in
    let shape : drop (length all - (c.loop-passed.passed + 1)) all ≡ row ∷ drop (length all - c.loop-passed.passed) all =
    one_more all c.loop-passed.passed row (omega (arith, c.loop-passed-test.true)) c.index-hooks-hooks.is in
    let address : key.now ≡ row.hook.url = c.bytes.ensures ∙ ap (λ (h : HookRow). h.hook.url) (sym c.index-hooks-hooks.is) in
    seen_more row (drop (length all - c.loop-passed.passed) all) (drop (length all - (c.loop-passed.passed + 1)) all) key keys c.insert.new.self.keys
    c.loop-passed.invariant address (was_new c.in_ok-insert.field-0 (has_key keys key) c.in_ok-insert.ensures.added c.if-not-branch.false)
    (λ text. c.in_ok-insert.ensures.updates.0 text) shape
