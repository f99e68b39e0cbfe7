use Rattle.std.proofs.Common.{sym, ◌∙◌}
use Rattle.object_refs.specs.References.{stored_at}
use Rattle.object_refs.proofs.Refusing.{changed_by, found_again, keep_allocated, keep_none, keep_stored}
use Rattle.object_refs.proofs.trees.ObjectTrees.mark_stored.Goals as goal

pub returns-in_default : goal.returns-in_default
returns-in_default c = keep_none c.args.id.now c.args.self.now (sym c.in_default.ensures)

pub returns-then-is_stored : goal.returns-then-is_stored
returns-then-is_stored c = keep_stored c.args.id.now c.args.self.now c.in-Some.old.now (sym c.in-Some.ensures) (sym c.is_stored.ensures ∙ c.if-is_stored.true)

-- the object is the one of its own id
pub with_kept-requires-clause-found : goal.with_kept-requires-clause-found
with_kept-requires-clause-found c = found_again c.args.id.now c.args.self.now c.in-Some.old.now (sym c.in-Some.ensures)

pub returns : goal.returns
returns c =
    let found = sym c.in-Some.ensures in (
      keep_allocated c.args.id.now c.args.self.now c.in-Some.old.now found (sym c.is_stored.ensures ∙ c.if-is_stored.false),
      changed_by c.args.id.now c.args.self.now c.in_ok-with_kept.field-0 c.in-Some.old.now (stored_at c.args.extent c.args.digest c.args.now) found
          (c.in_ok-with_kept.ensures (stored_at c.args.extent c.args.digest c.args.now) c.in_ok-new.ensures),
    )
