use Rattle.std.proofs.Common.{refl}
use Rattle.segment_pieces.proofs.RangeLemmas.{is_moved}
use Rattle.segment_pieces.proofs.ranges.moved.Goals as goal

-- ranges with the same points are one range
pub returns-clause-value : goal.returns-clause-value
returns-clause-value c =
    is_moved c.args.range.now _ c.args.by c.range_is_sound.ensures c.range_is_sound-2.ensures
    (c.in_ok-other.ensures.within.0 refl)
    c.in_ok-other.ensures.points
