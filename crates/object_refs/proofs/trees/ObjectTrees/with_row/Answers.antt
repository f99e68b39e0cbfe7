use Rattle.std.proofs.Common.{◌≡◌, rules, FitsSigned, pos, ap, sym, subst, ◌∙◌, false}
use mir.Syntax.{w128}
use Rattle.std.proofs.lemmas.Int.{to_z-of_z}
use Rattle.shared_tree.specs.Pairs.{with_pair}
use Rattle.object_refs.specs.References.{kept_of}
use Rattle.object_refs.specs.Within.Books.{has_serial, with_new_object}
use Rattle.object_refs.proofs.Coming.{bare_is, kept_with, new_book}
use Rattle.object_refs.proofs.Restoring.{put_row}
use Rattle.object_refs.proofs.trees.ObjectTrees.with_row.Goals as goal

-- the id and the serial are new
pub invariant_of-result : goal.invariant_of-result
invariant_of-result c =
    let rows = c.self.inside.rows in
    let row = c.args.row in
    let new = kept_with row c.empty.result in
    let fit : FitsSigned w128 c.serial_key.result = search rules in
    let made = bare_is row c.empty.result c.empty.ensures in
    let put : c.in_ok-with_value.field-0 ≡ with_pair (c.serial_key.result, new) rows = simp to_z-of_z at c.in_ok-with_value.ensures in
    new_book row c.in_ok-id.id c.args.number c.idle_key-key.result new rows c.in_ok-with_value.field-0 c.self.inside.names
    c.in_ok-with.field-0 c.self.inside.idle c.in_ok-idle_entered.field-0 c.self.invariant c.keys_rise.ensures c.tell_small.ensures
    (subst (λ kept. has_serial row.serial kept ≡ false) (sym c.self.view_is) c.requires.serial) (ap (kept_of row.id) c.self.view_is ∙ c.requires.id) made
    c.in_ok-id.ensures c.requires.number c.idle_key-key.ensures
    (put ∙ ap (λ k. with_pair (k, new) rows) c.serial_key.ensures) c.in_ok-with.ensures c.in_ok-idle_entered.ensures

-- the object stands at its place
pub returns : goal.returns
returns c =
    let rows = c.self.inside.rows in
    let row = c.args.row in
    let new = kept_with row c.empty.result in
    let fit : FitsSigned w128 c.serial_key.result = search rules in
    let made = bare_is row c.empty.result c.empty.ensures in
    let put : c.in_ok-with_value.field-0 ≡ with_pair (c.serial_key.result, new) rows = simp to_z-of_z at c.in_ok-with_value.ensures in
    put_row row rows c.in_ok-with_value.field-0 c.keys_rise.ensures c.self.invariant.keyed
    (subst (λ kept. has_serial row.serial kept ≡ false) (sym c.self.view_is) c.requires.serial)
    (put ∙ ap (λ k. with_pair (k, new) rows) c.serial_key.ensures ∙ ap (λ v. with_pair (pos row.serial, v) rows) made)
    ∙ ap (with_new_object row) c.self.view_is
