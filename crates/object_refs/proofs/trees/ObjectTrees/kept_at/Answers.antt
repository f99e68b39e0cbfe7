use Rattle.std.proofs.Common.{◌≡◌, rules, ap, sym, ◌∙◌, FitsSigned, option_copied}
use mir.Syntax.{w128}
use Rattle.std.proofs.lemmas.Int.{to_z-of_z}
use Rattle.shared_tree.specs.Pairs.{value_at}
use Rattle.object_refs.specs.References.{kept_of}
use Rattle.object_refs.specs.NameTables.{serial_named}
use Rattle.object_refs.proofs.Found.{kept_found, kept_none}
use Rattle.object_refs.proofs.trees.ObjectTrees.kept_at.Goals as goal

-- the id's serial leads to the object
pub returns-in-Some : goal.returns-in-Some
returns-in-Some c =
    let rows = c.self.inside.rows in
    let fit : FitsSigned w128 c.serial_key.result = search rules in
    let there : option_copied c.value_at.result ≡ value_at c.serial_key.result rows = simp to_z-of_z at c.value_at.ensures in
    there ∙ ap (λ k. value_at k rows) c.serial_key.ensures
    ∙ kept_found c.args.id.now c.in-Some.serial rows c.self.inside.names c.keys_rise.ensures c.self.invariant.named
    (sym (c.in-Some.ensures ∙ ap (λ n. serial_named n c.args.id.now c.self.inside.names) c.requires.number))
    ∙ ap (kept_of c.args.id.now) c.self.view_is

-- an id without a serial is no object's
pub returns-in-None : goal.returns-in-None
returns-in-None c =
    sym (kept_none c.args.id.now c.self.inside.rows c.self.inside.names c.keys_rise.ensures c.self.invariant.named
    (sym (c.in-None.ensures ∙ ap (λ n. serial_named n c.args.id.now c.self.inside.names) c.requires.number)))
    ∙ ap (kept_of c.args.id.now) c.self.view_is
