use Rattle.std.proofs.Common.{arith}
use Rattle.std.proofs.lemmas.Bool.{false≢true}
use Rattle.range_edit.proofs.PlaceLemmas.{apart_more, over_none}
use Rattle.range_edit.proofs.placing.stands_over.Goals as goal

-- The place has no point in common with the range.
pub loop-place-preserved : goal.loop-place-preserved
loop-place-preserved c =
    apart_more c.args.places.now c.args.range.now c.loop-place.place-index c.place-item.result
    (omega arith)
    c.place-item.is c.loop-place.invariant (λ over. let e = c.if-range_overlaps.ensures.points.1
    over in cc)

-- No place has.
pub returns : goal.returns
returns c = (
  λ e. absurd (false≢true e),
  λ stands. absurd (over_none c.args.places.now c.args.range.now c.loop-place.place-index
      (omega arith)
      c.loop-place.invariant stands),
)
