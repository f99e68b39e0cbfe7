use Rattle.std.proofs.Common.{◌≡◌, ◌<◌, ◌+◌, ◌∷◌, drop, length, sym, subst, ◌∙◌, arith}
use Rattle.media_rows.specs.Library.{last_serial}
use Rattle.webhook_outbox.proofs.Posting.{Comes, comes_more, comes_to_none, ended, item_first}
use Rattle.webhook_outbox.proofs.posts.post_all.Goals as goal

-- serials have ended before
pub returns-then-serial-gt-LAST_SERIAL : goal.returns-then-serial-gt-LAST_SERIAL
returns-then-serial-gt-LAST_SERIAL c =
    let over : last_serial < c.args.serial = omega (arith, c.if-serial-gt-LAST_SERIAL.true) in
    sym (ended c.args.happened.now c.args.now (record { outbox = c.args.outbox.now; next = c.args.serial }) over)

-- serials end with one happening, and so with all
pub returns-in-None : goal.returns-in-None
returns-in-None c =
    let i = c.loop-one.one-index in
    let all = c.args.happened.now in
    let one = c.one-item.result in
    let within : i < length all = omega arith in
    let shape : drop i all ≡ one ∷ drop (i + 1) all = item_first all i one within c.one-item.is in
    comes_to_none all one (drop (i + 1) all) c.args.now c.args.outbox.now c.args.serial c.loop-one.reached
    (subst (λ l. Comes all l c.args.now c.args.outbox.now c.args.serial c.loop-one.reached) shape c.loop-one.invariant)
    (sym c.in-None.is ∙ c.in_ok-next.ensures)

-- one happening more
pub loop-one-preserved : goal.loop-one-preserved
loop-one-preserved c =
    let i = c.loop-one.one-index in
    let all = c.args.happened.now in
    let one = c.one-item.result in
    let within : i < length all = omega arith in
    let shape : drop i all ≡ one ∷ drop (i + 1) all = item_first all i one within c.one-item.is in
    comes_more all one (drop (i + 1) all) c.args.now c.args.outbox.now c.args.serial c.loop-one.reached c.in-Some.next
    (subst (λ l. Comes all l c.args.now c.args.outbox.now c.args.serial c.loop-one.reached) shape c.loop-one.invariant)
    (sym c.in-Some.is ∙ c.in_ok-next.ensures)
