use Rattle.std.proofs.Common.{ap, arith, inl, inr, length, sym}
use Rattle.http_wire.proofs.Trailers.{seen_inside, trailer_full, trailer_lined, trailer_long, trailer_more, trailer_whole}
use Rattle.http_wire.proofs.chunk_line.find_trailer.Goals as goal

pub after-rest-requires : goal.after-rest-requires
after-rest-requires c = omega (arith, ap length c.front-most.ensures.value, seen_inside c.args.bytes.now c.args.seen c.requires)

pub returns-then-seen-count_lines-gt-MAX_TRAILER_LINES : goal.returns-then-seen-count_lines-gt-MAX_TRAILER_LINES
returns-then-seen-count_lines-gt-MAX_TRAILER_LINES c =
    trailer_long _ _ c.after-rest.result.now c.args.seen c.requires c.front-most.ensures.value c.after-rest.ensures _ (sym c.in-Ended.ensures.found)
    (rw (← c.front.ensures.value, ← c.count_lines.ensures.lines) c.if-seen-count_lines-gt-MAX_TRAILER_LINES.true)

pub returns-else-seen-count_lines-gt-MAX_TRAILER_LINES : goal.returns-else-seen-count_lines-gt-MAX_TRAILER_LINES
returns-else-seen-count_lines-gt-MAX_TRAILER_LINES c =
    trailer_whole _ _ c.after-rest.result.now c.args.seen c.requires c.front-most.ensures.value c.after-rest.ensures _ (sym c.in-Ended.ensures.found)
    (rw (← c.front.ensures.value, ← c.count_lines.ensures.lines) c.if-seen-count_lines-gt-MAX_TRAILER_LINES.false)

pub returns-then-lines-ge-MAX_TRAILER_LINES : goal.returns-then-lines-ge-MAX_TRAILER_LINES
returns-then-lines-ge-MAX_TRAILER_LINES c =
    elim c.if-lines-ge-MAX_TRAILER_LINES.either [
      | inl long ↦
          trailer_full _ _ c.after-rest.result.now c.args.seen c.requires c.front-most.ensures.value c.after-rest.ensures _
          (sym c.in-Still.ensures.found) long
      | inr many ↦
          trailer_lined _ _ c.after-rest.result.now c.args.seen c.requires c.front-most.ensures.value c.after-rest.ensures _
          (sym c.in-Still.ensures.found) (rw (← c.count_lines-in-Still.ensures.lines) many.1)
    ]

pub returns-else-lines-ge-MAX_TRAILER_LINES : goal.returns-else-lines-ge-MAX_TRAILER_LINES
returns-else-lines-ge-MAX_TRAILER_LINES c =
    rw c.count_lines-in-Still.ensures.lines
    (trailer_more _ _ c.after-rest.result.now c.args.seen c.requires c.front-most.ensures.value c.after-rest.ensures _ (sym c.in-Still.ensures.found)
    c.if-lines-ge-MAX_TRAILER_LINES.false.0 (rw (← c.count_lines-in-Still.ensures.lines) c.if-lines-ge-MAX_TRAILER_LINES.false.1))
