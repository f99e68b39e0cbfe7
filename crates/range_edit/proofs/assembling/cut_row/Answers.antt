use Rattle.range_edit.proofs.CutLemmas.{cuts_row, refused_place, refused_taking}
use Rattle.range_edit.proofs.Rows.{fault_passes}
use Rattle.range_edit.proofs.assembling.cut_row.Goals as goal

-- The row has no place.
pub returns-in_err-placed-clause-fault : goal.returns-in_err-placed-clause-fault
returns-in_err-placed-clause-fault c =
    fault_passes _ _ _ c.from_residual.ensures.1 (refused_place _ _ c.args.row.now
    c.args.cutting.now _ _
    c.number_behind-number.ensures (rw c.items.ensures at c.in_err-placed.ensures.fault))

-- A piece of the row is refused.
pub returns-in_err-take_row-clause-fault : goal.returns-in_err-take_row-clause-fault
returns-in_err-take_row-clause-fault c =
    fault_passes _ _ _ c.from_residual-in_err-take_row.ensures.1
    (refused_taking _ _ c.args.row.now c.args.cutting.now c.in_ok-placed.placed
    (rw c.items.ensures at c.in_ok-placed.ensures.placed) _ _ c.number_behind-number.ensures
    c.in_err-take_row.ensures.fault)

-- The row is cut.
pub returns-clause-cut : goal.returns-clause-cut
returns-clause-cut c =
    cuts_row _ _ c.args.row.now c.args.cutting.now c.in_ok-placed.placed
    (rw c.items.ensures at c.in_ok-placed.ensures.placed) _ c.in_ok-take_row.ensures.taken
    c.in_ok-push.ensures.ok
