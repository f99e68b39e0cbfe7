use Rattle.std.proofs.Common.{◌≡◌, rules, FitsSigned, ap, ◌∙◌}
use mir.Syntax.{w128}
use Rattle.std.proofs.lemmas.Int.{to_z-of_z}
use Rattle.shared_tree.specs.Pairs.{without_key}
use Rattle.object_refs.specs.References.{kept_of, without_id}
use Rattle.object_refs.proofs.Changing.{left_book, left_values}
use Rattle.object_refs.proofs.trees.ObjectTrees.without_kept.Goals as goal

-- the object's name and its place in the order of sweeps go with it
pub invariant_of-result : goal.invariant_of-result
invariant_of-result c =
    let rows = c.self.inside.rows in
    let fit : FitsSigned w128 c.serial_key.result = search rules in
    let cut : c.in_ok-without_value.field-0 ≡ without_key c.serial_key.result rows = simp to_z-of_z at c.in_ok-without_value.ensures in
    left_book rows c.in_ok-without_value.field-0 c.self.inside.names c.in_ok-without.field-0 c.self.inside.idle c.in_ok-idle_left.field-0 c.args.old.now
    c.args.number c.idle_key.result c.self.invariant c.keys_rise.ensures
    (ap (kept_of c.args.old.now.row.id) c.self.view_is ∙ c.requires.found) c.requires.number c.idle_key.ensures
    (cut ∙ ap (λ k. without_key k rows) c.serial_key.ensures) c.in_ok-without.ensures c.in_ok-idle_left.ensures

-- and all others stay
pub returns : goal.returns
returns c =
    let rows = c.self.inside.rows in
    let fit : FitsSigned w128 c.serial_key.result = search rules in
    let cut : c.in_ok-without_value.field-0 ≡ without_key c.serial_key.result rows = simp to_z-of_z at c.in_ok-without_value.ensures in
    left_values rows c.in_ok-without_value.field-0 c.self.inside.names c.self.inside.idle c.args.old.now c.self.invariant c.keys_rise.ensures
    (ap (kept_of c.args.old.now.row.id) c.self.view_is ∙ c.requires.found) (cut ∙ ap (λ k. without_key k rows) c.serial_key.ensures)
    ∙ ap (without_id c.args.old.now.row.id) c.self.view_is
