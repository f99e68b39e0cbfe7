use Rattle.segment_pieces.proofs.PieceLemmas.{whole_parts_are_whole}
use Rattle.segment_pieces.proofs.laws.whole_parts_are_whole.Goals as goal

pub returns : goal.returns
returns c = whole_parts_are_whole
