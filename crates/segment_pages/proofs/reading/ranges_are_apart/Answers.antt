use Rattle.segment_pages.proofs.OrderLemmas.{apart_by}
use Rattle.segment_pages.proofs.reading.ranges_are_apart.Goals as goal

pub returns : goal.returns
returns c = apart_by c.args.first.now c.args.second.now c.range_overlaps-overlap.result c.range_overlaps-overlap.ensures.test c.range_overlaps-overlap.ensures.points
    (rw c.low-first.ensures.value at c.low-first.ensures.first) (rw c.low-second.ensures.value at c.low-second.ensures.first)
