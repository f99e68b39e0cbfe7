use Rattle.segment_pieces.proofs.PieceLemmas.{pieces_are_bounded, pieces_are_stored, posts_are_good}
use Rattle.segment_pieces.proofs.laws.pieces_are_good.Goals as goal

pub returns-clause-bounded : goal.returns-clause-bounded
returns-clause-bounded c = pieces_are_bounded

pub returns-clause-stored : goal.returns-clause-stored
returns-clause-stored c = pieces_are_stored

pub returns-clause-posts : goal.returns-clause-posts
returns-clause-posts c = posts_are_good
