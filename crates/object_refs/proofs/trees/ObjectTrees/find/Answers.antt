use Rattle.std.proofs.Common.{ap, sym, ◌∙◌, option_map}
use Rattle.object_refs.proofs.Found.{object_is}
use Rattle.object_refs.proofs.trees.ObjectTrees.find.Goals as goal

-- the object's row is the one among the objects
pub returns-in-Some : goal.returns-in-Some
returns-in-Some c = ap (option_map (λ k. k.row)) c.in-Some.ensures ∙ sym (object_is c.args.id.now c.args.self.now)

pub returns-in-None : goal.returns-in-None
returns-in-None c = ap (option_map (λ k. k.row)) c.in-None.ensures ∙ sym (object_is c.args.id.now c.args.self.now)
