use Rattle.std.proofs.Common.{◌≡◌, ◌<◌, ◌≤◌, ◌+◌, filter, length, ap, ◌∙◌, arith}
use Rattle.media_rows.specs.Library.{last_serial}
use Rattle.media_rows.specs.Outbox.{takes}
use Rattle.shared_tree.specs.Pairs.{values_of}
use Rattle.webhook_outbox.specs.Within.Slots.{hook_rows}
use Rattle.webhook_outbox.specs.declared.posts.PostsReached.{PostsReached}
use Rattle.webhook_outbox.proofs.Posting.{hooks_length, one_ended, one_reached, takers_kept}
use Rattle.webhook_outbox.proofs.posts.post_one.Goals as goal

-- too many take it
pub returns-then-count-serial : goal.returns-then-count-serial
returns-then-count-serial c =
    let rows = hook_rows (values_of c.deref-takers.result.now) in
    let taken : rows ≡ filter (takes c.args.happened.now) c.args.outbox.now.hooks =
    ap (λ l. hook_rows (values_of l)) c.deref-takers.ensures.value ∙ c.in_ok-list.ensures in
    let size : length rows ≡ length c.deref-takers.result.now = hooks_length c.deref-takers.result.now in
    let from : PostsReached = record { outbox = c.args.outbox.now; next = c.args.serial } in
    let over : last_serial < c.args.serial + length rows = omega (arith, size, c.if-count-serial.true) in
    one_ended c.args.happened.now c.args.now from rows taken over

-- the hooks that take it are among all
pub post_to-requires-clause-kept : goal.post_to-requires-clause-kept
post_to-requires-clause-kept c =
    takers_kept c.args.happened.now (hook_rows (values_of c.deref-takers.result.now)) c.args.outbox.now.hooks
    (ap (λ l. hook_rows (values_of l)) c.deref-takers.ensures.value ∙ c.in_ok-list.ensures)

-- each of them has its event
pub returns : goal.returns
returns c =
    let rows = hook_rows (values_of c.deref-takers.result.now) in
    let taken : rows ≡ filter (takes c.args.happened.now) c.args.outbox.now.hooks =
    ap (λ l. hook_rows (values_of l)) c.deref-takers.ensures.value ∙ c.in_ok-list.ensures in
    let size : length rows ≡ length c.deref-takers.result.now = hooks_length c.deref-takers.result.now in
    let from : PostsReached = record { outbox = c.args.outbox.now; next = c.args.serial } in
    let next : c.args.serial + length c.deref-takers.result.now ≡ c.args.serial + length rows = omega (arith, size) in
    let within : c.args.serial + length c.deref-takers.result.now ≤ last_serial = omega (arith, c.requires.within, c.if-count-serial.false) in
    one_reached c.args.happened.now c.args.now from rows c.in_ok-post_to.field-0
    (c.args.serial + length c.deref-takers.result.now) taken c.in_ok-post_to.ensures next within
