use Rattle.segment_pieces.proofs.RangeLemmas.{part_stays}
use Rattle.segment_pieces.proofs.laws.part_stays_within.Goals as goal

-- the ends of a part lie between those of the clip
pub returns : goal.returns
returns c =
    part_stays c.args.segment.now.range c.args.clip.now.range c.args.clip.now.shift
    c.requires.bounded c.requires.within c.requires.overlap
