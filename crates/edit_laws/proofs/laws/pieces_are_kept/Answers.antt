use Rattle.edit_laws.proofs.KeptPieces.{pieces_are_kept}
use Rattle.edit_laws.proofs.laws.pieces_are_kept.Goals as goal

pub returns : goal.returns
returns c = pieces_are_kept c.pieces_show_what_was_shown.ensures
