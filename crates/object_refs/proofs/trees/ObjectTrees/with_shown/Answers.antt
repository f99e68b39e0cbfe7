use Rattle.std.proofs.Common.{◌≡◌, rules, FitsSigned, pos, Some, None, ap, ap₂, sym, subst, ◌∙◌}
use mir.Syntax.{w128}
use Rattle.std.proofs.lemmas.Int.{to_z-of_z}
use Rattle.shared_tree.specs.Pairs.{value_at}
use Rattle.object_refs.specs.References.{changed_at, kept_of}
use Rattle.object_refs.specs.Within.Apart.{IsHeld, shown_kept}
use Rattle.object_refs.proofs.Lists.{if_ok}
use Rattle.object_refs.proofs.Shown.{none_shown, put_shown, seen_found, seen_id, seen_serial, with_row_of}
use Rattle.object_refs.proofs.trees.ObjectTrees.with_shown.Goals as goal

-- where no object has the serial, nothing is shown in another way
pub returns-in_default : goal.returns-in_default
returns-in_default c =
    let rows = c.self.inside.rows in
    let row = c.args.row.now in
    let fit : FitsSigned w128 c.serial_key.result = search rules in
    let none : None ≡ value_at c.serial_key.result rows = simp to_z-of_z at c.in_default.ensures in
    let gone = none_shown row rows c.self.invariant.keyed (sym (none ∙ ap (λ k. value_at k rows) c.serial_key.ensures)) in
    if_ok c.share.result (λ next is. is ∙ subst (λ kept. kept ≡ shown_kept (Some row) kept) c.self.view_is (sym gone)) c.share.ensures

-- the object of the serial is the one of its own id
pub with_kept-requires-clause-found : goal.with_kept-requires-clause-found
with_kept-requires-clause-found c =
    let rows = c.self.inside.rows in
    let old = c.in-Some.old.now in
    let fit : FitsSigned w128 c.serial_key.result = search rules in
    let there : Some old ≡ value_at c.serial_key.result rows = simp to_z-of_z at c.in-Some.ensures in
    let here = sym (there ∙ ap (λ k. value_at k rows) c.serial_key.ensures) in
    sym (ap (kept_of old.row.id) c.self.view_is)
    ∙ seen_found old c.args.row.now.serial rows c.self.inside.names c.keys_rise.ensures c.self.invariant.named here

-- the row has its id and its serial
pub with_kept-requires-clause-id : goal.with_kept-requires-clause-id
with_kept-requires-clause-id c =
    let rows = c.self.inside.rows in
    let old = c.in-Some.old.now in
    let fit : FitsSigned w128 c.serial_key.result = search rules in
    let there : Some old ≡ value_at c.serial_key.result rows = simp to_z-of_z at c.in-Some.ensures in
    let here = sym (there ∙ ap (λ k. value_at k rows) c.serial_key.ensures) in
    ap (λ row. row.id) c.in_ok-duplicate.ensures
    ∙ seen_id c.args.row.now old rows c.self.invariant.keyed (subst (λ kept. IsHeld (Some c.args.row.now) kept) (sym c.self.view_is) c.requires.held) here

pub with_kept-requires-clause-serial : goal.with_kept-requires-clause-serial
with_kept-requires-clause-serial c =
    let rows = c.self.inside.rows in
    let old = c.in-Some.old.now in
    let fit : FitsSigned w128 c.serial_key.result = search rules in
    let there : Some old ≡ value_at c.serial_key.result rows = simp to_z-of_z at c.in-Some.ensures in
    let here = sym (there ∙ ap (λ k. value_at k rows) c.serial_key.ensures) in
    ap (λ row. row.serial) c.in_ok-duplicate.ensures ∙ seen_serial c.args.row.now old rows c.self.invariant.keyed here

-- and takes its place
pub returns : goal.returns
returns c =
    let rows = c.self.inside.rows in
    let row = c.args.row.now in
    let old = c.in-Some.old.now in
    let fit : FitsSigned w128 c.serial_key.result = search rules in
    let there : Some old ≡ value_at c.serial_key.result rows = simp to_z-of_z at c.in-Some.ensures in
    let here = sym (there ∙ ap (λ k. value_at k rows) c.serial_key.ensures) in
    let put = put_shown row old rows c.self.inside.names c.keys_rise.ensures c.self.invariant.keyed c.self.invariant.named here in
    if_ok c.with_kept.result
    (λ next is. is ∙ subst (λ kept. changed_at old.row.id (with_row_of row) kept ≡ shown_kept (Some row) kept) c.self.view_is put)
    (c.with_kept.ensures (with_row_of row) (ap₂ (λ r flows. record { row = r; flows = flows }) c.in_ok-duplicate.ensures c.in_ok-share.ensures))
