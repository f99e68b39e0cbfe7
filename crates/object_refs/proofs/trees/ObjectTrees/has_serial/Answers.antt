use Rattle.std.proofs.Common.{◌≡◌, rules, FitsSigned, option_copied, is_some, ap, sym, ◌∙◌}
use mir.Syntax.{w128}
use Rattle.std.proofs.lemmas.Int.{to_z-of_z}
use Rattle.shared_tree.specs.Pairs.{value_at}
use Rattle.object_refs.specs.Within.Books.{has_serial}
use Rattle.object_refs.proofs.Lists.{copied_some}
use Rattle.object_refs.proofs.Restoring.{serial_seen}
use Rattle.object_refs.proofs.trees.ObjectTrees.has_serial.Goals as goal

-- an object stands at its serial
pub returns : goal.returns
returns c =
    let rows = c.self.inside.rows in
    let fit : FitsSigned w128 c.serial_key.result = search rules in
    let there : option_copied c.value_at.result ≡ value_at c.serial_key.result rows = simp to_z-of_z at c.value_at.ensures in
    c.is_some.ensures ∙ sym (copied_some c.value_at.result) ∙ ap is_some (there ∙ ap (λ k. value_at k rows) c.serial_key.ensures)
    ∙ serial_seen c.args.serial rows c.self.invariant.keyed ∙ ap (has_serial c.args.serial) c.self.view_is
