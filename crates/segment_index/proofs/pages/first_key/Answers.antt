use Rattle.std.proofs.Common.{rules, FitsSigned, sym, subst, ◌∙◌, ◌≡◌, filter}
use mir.Syntax.{w128}
use Rattle.std.proofs.lemmas.Int.{to_z-of_z}
use Rattle.std.specs.Int.{int_max}
use Rattle.shared_tree.specs.Pairs.{is_from, is_up_to, last}
use Rattle.std.specs.List.{AllByRecursion}
use Rattle.segment_index.specs.Within.Keyed.{reaches}
use Rattle.segment_index.specs.Within.Walks.{StartsPage, walk_start}
use Rattle.segment_index.proofs.Starts.{page_from, page_open, starts_are}
use Rattle.segment_index.proofs.pages.first_key.Goals as goal

-- the range begins at a point
pub returns-in-Some-clause-first : goal.returns-in-Some-clause-first
returns-in-Some-clause-first g c =
    let rows = c.args.rows.now in
    let fit_low : FitsSigned w128 c.in-Some.low = search rules in
    let fit_behind : FitsSigned w128 c.point_behind-behind.result = search rules in
    let fit_start : FitsSigned w128 c.first_reaching.result = search rules in
    let fit : FitsSigned w128 c.max.result = search rules in
    let start : c.first_reaching.result ≡ walk_start c.in-Some.low (last (filter (is_up_to c.in-Some.low) rows)) =
    simp to_z-of_z at c.first_reaching.ensures.start in
    let key : c.max.result ≡ int_max c.point_behind-behind.result c.first_reaching.result = simp to_z-of_z at c.max.ensures.value in
    let reach = subst (λ s. AllByRecursion (λ p. is_from s p ≡ reaches c.in-Some.low p) rows) (sym start)
    (starts_are c.in-Some.low rows c.requires.kept.keyed c.requires.kept.apart c.keys_rise.ensures) in
    subst (λ k. StartsPage c.args.range.now c.args.after.now k rows) (sym (to_z-of_z w128 c.max.result fit))
    (page_from c.args.range.now c.args.after.now c.in-Some.low c.first_reaching.result c.point_behind-behind.result c.max.result rows
    (sym c.low.ensures.value ∙ c.in-Some.is) c.requires.kept.keyed c.point_behind-behind.ensures reach key)

-- it has no beginning
pub returns-in-None-clause-first : goal.returns-in-None-clause-first
returns-in-None-clause-first g c =
    let fit : FitsSigned w128 c.point_behind-behind.result = search rules in
    subst (λ k. StartsPage c.args.range.now c.args.after.now k c.args.rows.now) (sym (to_z-of_z w128 c.point_behind-behind.result fit))
    (page_open c.args.range.now c.args.after.now c.point_behind-behind.result c.args.rows.now (sym c.low.ensures.value ∙ c.in-None.is) c.requires.kept.keyed
    c.point_behind-behind.ensures)
