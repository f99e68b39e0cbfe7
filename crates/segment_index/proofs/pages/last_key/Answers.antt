use Rattle.std.proofs.Common.{rules, FitsSigned, sym, subst, ◌∙◌, ◌≡◌}
use mir.Syntax.{w128}
use Rattle.std.specs.Int.{int_min}
use Rattle.std.proofs.lemmas.Int.{to_z-of_z}
use Rattle.segment_index.specs.Within.Walks.{StartsReverse}
use Rattle.segment_index.proofs.Starts.{reverse_from, reverse_open}
use Rattle.segment_index.proofs.pages.last_key.Goals as goal

-- the range ends at a point
pub returns-in-Some : goal.returns-in-Some
returns-in-Some c =
    let fit_high : FitsSigned w128 c.in-Some.high = search rules in
    let fit_before : FitsSigned w128 c.point_before-before.result = search rules in
    let fit : FitsSigned w128 c.min.result = search rules in
    let key : c.min.result ≡ int_min c.point_before-before.result c.in-Some.high = simp to_z-of_z at c.min.ensures.value in
    subst (λ k. StartsReverse c.args.range.now c.args.after.now k c.args.rows.now) (sym (to_z-of_z w128 c.min.result fit))
    (reverse_from c.args.range.now c.args.after.now c.in-Some.high c.point_before-before.result c.min.result c.args.rows.now
    (sym c.high.ensures.value ∙ c.in-Some.is) c.requires.kept.keyed c.point_before-before.ensures key)

-- it has no end
pub returns-in-None : goal.returns-in-None
returns-in-None c =
    let fit : FitsSigned w128 c.point_before-before.result = search rules in
    subst (λ k. StartsReverse c.args.range.now c.args.after.now k c.args.rows.now) (sym (to_z-of_z w128 c.point_before-before.result fit))
    (reverse_open c.args.range.now c.args.after.now c.point_before-before.result c.args.rows.now (sym c.high.ensures.value ∙ c.in-None.is) c.requires.kept.keyed
    c.point_before-before.ensures)
