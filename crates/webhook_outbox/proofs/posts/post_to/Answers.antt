use Rattle.std.proofs.Common.{◌≡◌, ◌<◌, ◌+◌, [], ◌∷◌, drop, length, ap, subst, ◌∙◌, arith}
use Rattle.media_rows.specs.Outbox.{event_row, with_events}
use Rattle.shared_tree.specs.Pairs.{values_of}
use Rattle.webhook_outbox.specs.Within.Slots.{hook_rows}
use Rattle.webhook_outbox.specs.declared.posts.PostsReached.{PostsReached}
use Rattle.webhook_outbox.proofs.Posting.{Told, item_first, told_more}
use Rattle.webhook_outbox.proofs.posts.post_to.Goals as goal

-- one event more
pub loop-slot-preserved : goal.loop-slot-preserved
loop-slot-preserved c =
    let i = c.loop-slot.slot-index in
    let all = c.args.takers.now in
    let row = c.slot-item.result.now.row.value in
    let from : PostsReached = record { outbox = c.args.outbox.now; next = c.args.serial } in
    let within : i < length all = omega arith in
    let shape : drop i all ≡ c.slot-item.result ∷ drop (i + 1) all = item_first all i c.slot-item.result within c.slot-item.is in
    let before : Told c.args.happened.now c.args.now (hook_rows (values_of all)) (row ∷ hook_rows (values_of (drop (i + 1) all))) from c.loop-slot.next
    c.loop-slot.free = subst
    (λ l. Told c.args.happened.now c.args.now (hook_rows (values_of all)) (hook_rows (values_of l)) from c.loop-slot.next c.loop-slot.free) shape
    c.loop-slot.invariant in
    let event : c.event_row.result ≡ event_row c.args.happened.now c.args.now row c.loop-slot.free =
    c.event_row.ensures ∙ ap (λ r. event_row c.args.happened.now c.args.now r c.loop-slot.free) c.deref.ensures in
    told_more c.args.happened.now c.args.now (hook_rows (values_of all)) row (hook_rows (values_of (drop (i + 1) all))) from c.loop-slot.next
    c.in_ok-next-2.next c.loop-slot.free before (c.in_ok-next-2.ensures ∙ ap (λ r. with_events (r ∷ []) c.loop-slot.next) event)
