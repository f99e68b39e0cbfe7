use Rattle.std.proofs.Common.{Ok, ap, is_some}
use Rattle.media_rows.specs.Objects.{object_of}
use Rattle.media_rows.specs.Refusals.{when}
use Rattle.media_rows.specs.declared.refusal.Refusal.TheVariants.{IdTaken}
use Rattle.object_refs.specs.References.{objects_in}
use Rattle.object_refs.proofs.Theorems.{below_after}
use Rattle.book_measure.proofs.objects.allocated.Goals as goal

-- the new serial is the highest
pub returns-in-Ok : goal.returns-in-Ok
returns-in-Ok c =
    below_after c.args.id.now c.args.serial 0 c.args.book.now.kept (when (is_some (object_of c.args.id.now (objects_in c.args.book.now.kept))) (IdTaken c.args.id.now))
    (Ok c.in-Ok.next.kept) c.requires (c.in-Ok.ensures.0, ap (λ book. book.kept) c.in-Ok.ensures.1)
