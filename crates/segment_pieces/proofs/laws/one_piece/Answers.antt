use Rattle.segment_pieces.proofs.PieceLemmas.{one_piece}
use Rattle.segment_pieces.proofs.laws.one_piece.Goals as goal

pub returns : goal.returns
returns c = one_piece
