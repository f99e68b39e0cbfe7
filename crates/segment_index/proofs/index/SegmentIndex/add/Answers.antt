use Rattle.std.proofs.Common.{rules, ◌≡◌, FitsSigned, sym, ap, subst, ◌∙◌, None, Some, ℤ}
use mir.Syntax.{w128}
use Rattle.std.proofs.lemmas.Int.{to_z-of_z}
use Rattle.media_rows.specs.Lists.{placed}
use Rattle.media_rows.specs.Segments.{starts_before}
use Rattle.shared_tree.specs.Pairs.{first, values}
use Rattle.segment_index.specs.Answers.{met}
use Rattle.segment_index.specs.Within.Keyed.{IsKeyed, last_point, span}
use Rattle.segment_index.proofs.Changed.{adds_nothing, all_miss, index_with, met_row, values_with}
use Rattle.segment_index.proofs.index.SegmentIndex.add.Goals as goal

-- a segment that meets none has its place
pub invariant_of-result : goal.invariant_of-result
invariant_of-result g c =
    let low : ℤ = c.first_point-low.result in
    let fit : FitsSigned w128 c.first_point-low.result = search rules in
    let fit_high : FitsSigned w128 c.last_point-high.result = search rules in
    let keyed : IsKeyed (low, c.args.row.value) = subst (λ r. IsKeyed (low, r)) c.as_ref.ensures c.first_point-low.ensures in
    let high : c.last_point-high.result ≡ last_point c.args.row.value = c.last_point-high.ensures ∙ ap last_point c.as_ref-2.ensures in
    let none = subst (λ h. None ≡ first (met (values c.self.inside.rows) (span (Some low) (Some h)))) high (simp to_z-of_z at c.in-None.ensures.row) in
    let misses = all_miss low (last_point c.args.row.value) c.self.inside.rows c.self.invariant.keyed (sym none) in
    let pairs = simp to_z-of_z at c.in_ok-with-in-None.ensures in
    index_with low c.args.row.value c.self.inside.rows c.in_ok-with-in-None.field-0 c.self.invariant keyed misses pairs

-- it is met by the one that was found
pub returns-in-Some-clause-answer : goal.returns-in-Some-clause-answer
returns-in-Some-clause-answer g c =
    let low : ℤ = c.first_point-low.result in
    let fit : FitsSigned w128 c.first_point-low.result = search rules in
    let fit_high : FitsSigned w128 c.last_point-high.result = search rules in
    let keyed : IsKeyed (low, c.args.row.value) = subst (λ r. IsKeyed (low, r)) c.as_ref.ensures c.first_point-low.ensures in
    let high : c.last_point-high.result ≡ last_point c.args.row.value = c.last_point-high.ensures ∙ ap last_point c.as_ref-2.ensures in
    let found = subst (λ rows. Some c.in-Some.kept.now ≡ first (met rows (span (Some low) (Some c.last_point-high.result)))) c.self.view_is
    (simp to_z-of_z at c.in-Some.ensures.row) in
    met_row low c.last_point-high.result c.args.row.value c.args.self.now (Some c.in-Some.kept.now) keyed high found

-- want of memory may come where none is met
pub returns-in_err-with-in-None-clause-answer : goal.returns-in_err-with-in-None-clause-answer
returns-in_err-with-in-None-clause-answer g c =
    let low : ℤ = c.first_point-low.result in
    let fit : FitsSigned w128 c.first_point-low.result = search rules in
    let fit_high : FitsSigned w128 c.last_point-high.result = search rules in
    let keyed : IsKeyed (low, c.args.row.value) = subst (λ r. IsKeyed (low, r)) c.as_ref.ensures c.first_point-low.ensures in
    let high : c.last_point-high.result ≡ last_point c.args.row.value = c.last_point-high.ensures ∙ ap last_point c.as_ref-2.ensures in
    let none = subst (λ rows. None ≡ first (met rows (span (Some low) (Some c.last_point-high.result)))) c.self.view_is
    (simp to_z-of_z at c.in-None.ensures.row) in
    adds_nothing c.args.self.now c.args.row.value c.from_residual.result c.from_residual.ensures.0 c.from_residual.ensures.1
    (met_row low c.last_point-high.result c.args.row.value c.args.self.now None keyed high none)

-- and otherwise the segments have it at its place
pub returns-in_ok-with-in-None-clause-answer : goal.returns-in_ok-with-in-None-clause-answer
returns-in_ok-with-in-None-clause-answer g c =
    let low : ℤ = c.first_point-low.result in
    let fit : FitsSigned w128 c.first_point-low.result = search rules in
    let fit_high : FitsSigned w128 c.last_point-high.result = search rules in
    let keyed : IsKeyed (low, c.args.row.value) = subst (λ r. IsKeyed (low, r)) c.as_ref.ensures c.first_point-low.ensures in
    let high : c.last_point-high.result ≡ last_point c.args.row.value = c.last_point-high.ensures ∙ ap last_point c.as_ref-2.ensures in
    let kept_none = simp to_z-of_z at c.in-None.ensures.row in
    let none = subst (λ rows. None ≡ first (met rows (span (Some low) (Some c.last_point-high.result)))) c.self.view_is kept_none in
    let misses = all_miss low (last_point c.args.row.value) c.self.inside.rows c.self.invariant.keyed
    (sym (subst (λ h. None ≡ first (met (values c.self.inside.rows) (span (Some low) (Some h)))) high kept_none)) in
    let pairs = simp to_z-of_z at c.in_ok-with-in-None.ensures in
    let rows = values_with low c.args.row.value c.self.inside.rows c.in_ok-with-in-None.field-0 c.self.invariant.keyed keyed misses pairs in (
      met_row low c.last_point-high.result c.args.row.value c.args.self.now None keyed high none,
      rows ∙ ap (placed starts_before c.args.row.value)
          c.self.view_is,
    )
