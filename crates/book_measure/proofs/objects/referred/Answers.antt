use Rattle.std.proofs.Common.{ap}
use Rattle.media_rows.specs.declared.refusal.Refusal.TheVariants.{NoObject}
use Rattle.object_refs.proofs.Theorems.{refer_refers}
use Rattle.book_measure.proofs.objects.referred.Goals as goal

-- the reference came just now
pub returns-in-Ok : goal.returns-in-Ok
returns-in-Ok c =
    refer_refers c.args.id.now c.args.flow c.args.book.now.kept c.in-Ok.next.kept (NoObject c.args.id.now) c.in-Ok.ensures.0
    (ap (λ book. book.kept) c.in-Ok.ensures.1)
