use Rattle.segment_pieces.proofs.WorkedLemmas.{pieces_are_as_worked}
use Rattle.segment_pieces.proofs.laws.pieces_are_as_worked.Goals as goal

pub returns : goal.returns
returns c = pieces_are_as_worked
