-- There is one least range that covers two.
use Rattle.media_rows.proofs.RangeLemmas.{least_is_hull}
use Rattle.media_rows.proofs.ranges.range_hull.Goals as goal

pub returns-clause-value : goal.returns-clause-value
returns-clause-value c =
    least_is_hull _ _ _ c.range_is_sound-3.ensures c.range_is_sound.ensures c.range_is_sound-2.ensures c.hull-both.ensures.left c.hull-both.ensures.right
    c.hull-both.ensures.least
