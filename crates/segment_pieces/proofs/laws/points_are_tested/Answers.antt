use Rattle.segment_pieces.proofs.SampleLemmas.{point_decides}
use Rattle.segment_pieces.proofs.laws.points_are_tested.Goals as goal

pub returns : goal.returns
returns c = point_decides
