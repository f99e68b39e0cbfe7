-- A range that is not never has a point, and so its ends are in order.
use Rattle.media_rows.proofs.RangeLemmas.{is_range_by_ends}
use Rattle.media_rows.proofs.ranges.range_is_sound.Goals as goal

pub returns : goal.returns
returns c =
    is_range_by_ends c.args.range.now c.is_never-never.result
    (rw c.low-low.ensures.value at c.low-low.ensures.within)
    (rw c.high-high.ensures.value at c.high-high.ensures.within)
    c.is_never-never.ensures.never.0
    c.is_never-never.ensures.some
