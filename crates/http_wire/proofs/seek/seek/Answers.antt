use Rattle.std.proofs.Common.{◌≡◌, length, refl, ap, ◌∙◌, arith, length-take}
use Rattle.http_wire.specs.Lines.{head_end}
use Rattle.http_wire.specs.declared.lines.Looked.TheVariants.{Still}
use Rattle.http_wire.proofs.Seeking.{head_end-behind, seek_more, seek_refused}
use Rattle.http_wire.proofs.seek.seek.Goals as goal

pub after-requires : goal.after-requires
after-requires c =
    omega (arith, ap length c.front-seen.ensures.value, length-take 16384 c.args.unread.now, c.requires.inside, c.requires.few)

pub read_front-requires-clause-ends : goal.read_front-requires-clause-ends
read_front-requires-clause-ends c =
    head_end-behind c.args.unread.now c.args.place c.args.at c.requires
    ∙ rw (← c.front-seen.ensures.value, ← c.after.ensures, ← c.in-Ended.ensures.found) refl

pub returns-then-seen-lt-MAX_HEAD : goal.returns-then-seen-lt-MAX_HEAD
returns-then-seen-lt-MAX_HEAD c =
    let still : head_end c.args.unread.now ≡ Still c.in-Still.place =
    head_end-behind c.args.unread.now c.args.place c.args.at c.requires
    ∙ rw (← c.front-seen.ensures.value, ← c.after.ensures, ← c.in-Still.ensures.found) refl in
    let bytes = c.front-seen.ensures.value in
    rw bytes (seek_more c.args.unread.now c.in-Still.place still (rw (← bytes) c.if-seen-lt-MAX_HEAD.true))

pub returns-else-seen-lt-MAX_HEAD : goal.returns-else-seen-lt-MAX_HEAD
returns-else-seen-lt-MAX_HEAD c =
    let still : head_end c.args.unread.now ≡ Still c.in-Still.place =
    head_end-behind c.args.unread.now c.args.place c.args.at c.requires
    ∙ rw (← c.front-seen.ensures.value, ← c.after.ensures, ← c.in-Still.ensures.found) refl in
    seek_refused c.args.unread.now c.in-Still.place still (rw (← c.front-seen.ensures.value) c.if-seen-lt-MAX_HEAD.false)
