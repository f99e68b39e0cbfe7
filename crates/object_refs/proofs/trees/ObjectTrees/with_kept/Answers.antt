use Rattle.std.proofs.Common.{◌≡◌, rules, FitsSigned, ap, ◌∙◌}
use mir.Syntax.{w128}
use Rattle.std.proofs.lemmas.Int.{to_z-of_z}
use Rattle.shared_tree.specs.Pairs.{with_pair}
use Rattle.object_refs.specs.References.{changed_at, kept_of}
use Rattle.object_refs.proofs.Changing.{changed_book, changed_values}
use Rattle.object_refs.proofs.trees.ObjectTrees.with_kept.Goals as goal

-- the id and the serial stay, and the order of sweeps follows
pub invariant_of-result : goal.invariant_of-result
invariant_of-result c =
    let rows = c.self.inside.rows in
    let fit : FitsSigned w128 c.serial_key.result = search rules in
    let put : c.in_ok-with_value.field-0 ≡ with_pair (c.serial_key.result, c.args.new) rows = simp to_z-of_z at c.in_ok-with_value.ensures in
    changed_book rows c.in_ok-with_value.field-0 c.self.inside.names c.in_ok-share.field-0 c.self.inside.idle c.in_ok-left.left c.in_ok-idle_entered.field-0
    c.args.old.now c.args.new c.idle_key.result c.idle_key-key.result c.self.invariant c.keys_rise.ensures
    (ap (kept_of c.args.old.now.row.id) c.self.view_is ∙ c.requires.found) c.requires.id c.requires.serial c.idle_key.ensures c.idle_key-key.ensures
    (put ∙ ap (λ k. with_pair (k, c.args.new) rows) c.serial_key.ensures) c.in_ok-share.ensures c.in_ok-left.ensures c.in_ok-idle_entered.ensures

-- the new object stands in place of the old one
pub returns : goal.returns
returns c change made =
    let rows = c.self.inside.rows in
    let fit : FitsSigned w128 c.serial_key.result = search rules in
    let put : c.in_ok-with_value.field-0 ≡ with_pair (c.serial_key.result, c.args.new) rows = simp to_z-of_z at c.in_ok-with_value.ensures in
    changed_values rows c.in_ok-with_value.field-0 c.self.inside.names c.self.inside.idle c.args.old.now c.args.new change c.self.invariant
    c.keys_rise.ensures (ap (kept_of c.args.old.now.row.id) c.self.view_is ∙ c.requires.found) made
    (put ∙ ap (λ k. with_pair (k, c.args.new) rows) c.serial_key.ensures)
    ∙ ap (changed_at c.args.old.now.row.id change) c.self.view_is
