use Rattle.std.proofs.Common.{sym, ◌∙◌}
use Rattle.object_refs.proofs.Coming.{not_kept}
use Rattle.object_refs.proofs.trees.ObjectTrees.allocate.Goals as goal

-- no object has the id
pub with_new-requires-clause-id : goal.with_new-requires-clause-id
with_new-requires-clause-id c = not_kept c.args.id.now c.args.self.now (sym c.has_id.ensures ∙ c.if-has_id.false)
