use Rattle.segment_pieces.proofs.RangeLemmas.{is_meet}
use Rattle.segment_pieces.proofs.ranges.meet.Goals as goal

-- ranges with the same points are one range
pub returns : goal.returns
returns c =
    is_meet c.args.left.now c.args.right.now _ c.range_is_sound.ensures c.range_is_sound-2.ensures
    c.range_is_sound-3.ensures
    c.meet-both.ensures
