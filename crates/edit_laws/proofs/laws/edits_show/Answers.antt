use Rattle.edit_laws.proofs.EditLemmas.{edits_show}
use Rattle.edit_laws.proofs.laws.edits_show.Goals as goal

pub returns : goal.returns
returns c = edits_show c.pieces_show_what_was_shown.ensures
