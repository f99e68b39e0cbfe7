use Rattle.std.proofs.Common.{sym}
use Rattle.object_refs.specs.References.{kept_of, referred}
use Rattle.object_refs.proofs.Refusing.{changed_by, found_again, refers_none, refers_some, stored_found}
use Rattle.object_refs.proofs.trees.ObjectTrees.refer.Goals as goal

-- the object is the one of its own id
pub with_kept-requires-clause-found : goal.with_kept-requires-clause-found
with_kept-requires-clause-found c =
    found_again c.args.id.now c.args.self.now c.in-Some.old.now
    (stored_found (kept_of c.args.id.now c.args.self.now) c.in-Some.old.now (sym c.in-Some.ensures))

pub returns-in_ok-with_kept-in-Some : goal.returns-in_ok-with_kept-in-Some
returns-in_ok-with_kept-in-Some c =
    let stored = sym c.in-Some.ensures in
    let found = stored_found (kept_of c.args.id.now c.args.self.now) c.in-Some.old.now stored in (
      refers_some c.args.id.now c.args.self.now c.in-Some.old.now stored,
      changed_by c.args.id.now c.args.self.now c.in_ok-with_kept-in-Some.field-0 c.in-Some.old.now (referred c.args.flow) found
          (c.in_ok-with_kept-in-Some.ensures (referred c.args.flow) c.in_ok-new-in-Some.ensures),
    )

pub returns-in_ok-copy-in-None : goal.returns-in_ok-copy-in-None
returns-in_ok-copy-in-None c = refers_none c.args.id.now c.args.self.now c.in_ok-copy-in-None.field-0 (sym c.in-None.ensures) c.in_ok-copy-in-None.ensures
