use Rattle.segment_pieces.proofs.PieceLemmas.{pieces_show_what_was_shown}
use Rattle.segment_pieces.proofs.laws.pieces_show_what_was_shown.Goals as goal

pub returns : goal.returns
returns c = pieces_show_what_was_shown
