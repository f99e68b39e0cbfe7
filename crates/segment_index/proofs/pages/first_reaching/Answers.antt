use Rattle.std.proofs.Common.{rules, ◌≡◌, FitsSigned, sym, ap, ◌∙◌, filter, int_le, true, false}
use mir.Syntax.{w128}
use Rattle.std.proofs.lemmas.Int.{to_z-of_z}
use Rattle.shared_tree.specs.Pairs.{is_up_to, last}
use Rattle.segment_index.specs.Within.Keyed.{last_point}
use Rattle.segment_index.proofs.Starts.{start_there, start_here}
use Rattle.segment_index.proofs.pages.first_reaching.Goals as goal

-- the last one up to the point reaches it
pub returns-then-is_by-clause-start : goal.returns-then-is_by-clause-start
returns-then-is_by-clause-start g c =
    let point = c.args.point.now in
    let fit : FitsSigned w128 c.args.point.now = search rules in
    let fit_start : FitsSigned w128 c.in-Some.start = search rules in
    let fit_last : FitsSigned w128 c.last_point-end.result = search rules in
    let reached : int_le point (last_point c.in-Some.kept.now) ≡ true = ap (int_le point) (sym c.last_point-end.ensures) ∙ sym
    (simp to_z-of_z at c.is_by.ensures) ∙ c.if-is_by.true in
    to_z-of_z w128 c.in-Some.start fit_start
    ∙ start_there point (c.in-Some.start, c.in-Some.kept.now) (last (filter (is_up_to point) c.args.rows.now)) (simp to_z-of_z at c.in-Some.ensures.pair)
    reached

-- it ends before the point
pub returns-else-is_by-clause-start : goal.returns-else-is_by-clause-start
returns-else-is_by-clause-start g c =
    let point = c.args.point.now in
    let fit : FitsSigned w128 c.args.point.now = search rules in
    let fit_last : FitsSigned w128 c.last_point-end.result = search rules in
    let ended : int_le point (last_point c.in-Some.kept.now) ≡ false = ap (int_le point) (sym c.last_point-end.ensures) ∙ sym
    (simp to_z-of_z at c.is_by.ensures) ∙ c.if-is_by.false in
    to_z-of_z w128 c.args.point.now fit
    ∙ start_here point (c.in-Some.start, c.in-Some.kept.now) (last (filter (is_up_to point) c.args.rows.now)) (simp to_z-of_z at c.in-Some.ensures.pair) ended
