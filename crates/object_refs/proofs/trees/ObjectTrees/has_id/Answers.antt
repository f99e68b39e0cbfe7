use Rattle.std.proofs.Common.{ap, sym, ◌∙◌, is_some}
use Rattle.object_refs.specs.References.{kept_of}
use Rattle.object_refs.proofs.Found.{object_is}
use Rattle.object_refs.proofs.Lists.{copied_some, mapped_some}
use Rattle.object_refs.proofs.trees.ObjectTrees.has_id.Goals as goal

-- an object is kept where one is found
pub returns : goal.returns
returns c =
    c.is_some.ensures ∙ sym (copied_some c.kept_at.result) ∙ ap is_some c.kept_at.ensures
    ∙ sym (ap is_some (object_is c.args.id.now c.args.self.now) ∙ mapped_some (λ k. k.row) (kept_of c.args.id.now c.args.self.now))
