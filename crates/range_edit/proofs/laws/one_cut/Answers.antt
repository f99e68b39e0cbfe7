use Rattle.range_edit.proofs.OneCut.{one_cut}
use Rattle.range_edit.proofs.laws.one_cut.Goals as goal

-- takings have one list of pieces, and rows have one fault
pub returns : goal.returns
returns c = one_cut c.one_piece.ensures
