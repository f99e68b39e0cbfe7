use Rattle.std.proofs.Common.{inl, refl}
use Rattle.std.proofs.lemmas.Bool.{false≢true}
use Rattle.range_edit.proofs.PlaceLemmas.{occupied, rows_overlap, stands_over, stands_over_place, too_far}
use Rattle.range_edit.proofs.Rows.{fault_passes}
use Rattle.range_edit.proofs.placing.place_row.Goals as goal

-- The flow isn't right.
pub returns-in_err-rate-clause-fault : goal.returns-in_err-rate-clause-fault
returns-in_err-rate-clause-fault c =
    fault_passes _ _ _ c.from_residual.ensures.1 (λ before places. c.in_err-rate.ensures.fault
    before)

-- There is no place within the limit.
pub returns-in_default-clause-fault : goal.returns-in_default-clause-fault
returns-in_default-clause-fault c before places =
    inl (too_far _ _ before c.args.row.now _ _ c.in_ok-rate.ensures.rate
    (c.in_default.ensures.none refl))

-- An earlier row stands there.
pub returns-then-stands_over-clause-fault : goal.returns-then-stands_over-clause-fault
returns-then-stands_over-clause-fault c before places =
    inl (rows_overlap _ _ before c.args.row.now _ _ c.in_ok-rate.ensures.rate
    c.in-Some.ensures.within
    (stands_over before c.args.row.now _ places _ c.in-Some.ensures.place.place_is
    (c.if-stands_over.ensures.0 refl)))

-- A segment stands there.
pub returns-then-branch-clause-fault : goal.returns-then-branch-clause-fault
returns-then-branch-clause-fault c before places =
    let stands = c.in_ok-is_occupied.ensures.0 c.if-branch.true in
    inl (occupied _ _ before c.args.row.now _ _ c.in_ok-rate.ensures.rate c.in-Some.ensures.within
    (λ over. absurd (false≢true (c.if-stands_over.ensures.1
    (stands_over_place before c.args.row.now _ places _ c.in-Some.ensures.place.place_is over))))
    (rw c.in-Some.ensures.place.place_is at stands))
