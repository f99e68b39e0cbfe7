use Rattle.std.proofs.Common.{ap, sym, ◌∙◌}
use Rattle.media_rows.specs.Objects.{flows_naming}
use Rattle.object_refs.specs.References.{kept_of, references_in}
use Rattle.object_refs.proofs.Changing.{naming_found, naming_none}
use Rattle.object_refs.proofs.Lists.{if_ok}
use Rattle.object_refs.proofs.trees.ObjectTrees.flows_of.Goals as goal

-- the references to an object are its own
pub returns-in-Some : goal.returns-in-Some
returns-in-Some c =
    if_ok c.distinct.result
    (λ list is. is
    ∙ sym (naming_found c.args.id.now c.self.inside.rows c.self.inside.names c.self.inside.idle c.in-Some.kept.now c.self.invariant c.keys_rise.ensures
    (ap (kept_of c.args.id.now) c.self.view_is ∙ sym c.in-Some.ensures))
    ∙ ap (λ kept. flows_naming (references_in kept) c.args.id.now) c.self.view_is)
    c.distinct.ensures

pub returns-in-None : goal.returns-in-None
returns-in-None c = c.new.ensures ∙ sym (naming_none c.args.id.now c.args.self.now (sym c.in-None.ensures))
