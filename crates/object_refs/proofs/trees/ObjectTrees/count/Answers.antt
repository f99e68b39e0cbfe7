use Rattle.std.proofs.Common.{ap, sym, ◌∙◌, length}
use Rattle.media_rows.specs.Objects.{reference_count}
use Rattle.object_refs.specs.References.{kept_of, references_in}
use Rattle.object_refs.proofs.Referring.{count_found, refs_missing}
use Rattle.object_refs.proofs.trees.ObjectTrees.count.Goals as goal

-- the references to an object are its own
pub returns-in-Some : goal.returns-in-Some
returns-in-Some c =
    c.len.ensures
    ∙ sym (count_found c.args.id.now c.self.inside.rows c.self.inside.names c.in-Some.kept.now c.keys_rise.ensures c.self.invariant.keyed
    c.self.invariant.named (ap (kept_of c.args.id.now) c.self.view_is ∙ sym c.in-Some.ensures))
    ∙ ap (λ kept. reference_count (references_in kept) c.args.id.now) c.self.view_is

pub returns-in-None : goal.returns-in-None
returns-in-None c = sym (ap length (refs_missing c.args.id.now c.args.self.now (sym c.in-None.ensures)))
