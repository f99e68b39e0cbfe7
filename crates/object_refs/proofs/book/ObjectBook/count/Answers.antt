use Rattle.std.proofs.Common.{ap, sym, ◌∙◌}
use Rattle.media_rows.specs.Objects.{reference_count}
use Rattle.object_refs.specs.References.{references_in}
use Rattle.object_refs.proofs.Shown.{references_shown}
use Rattle.object_refs.proofs.book.ObjectBook.count.Goals as goal

-- references don't depend on digests
pub returns : goal.returns
returns c =
    c.count.ensures
    ∙ sym (ap (λ refs. reference_count refs c.args.id.now) (references_shown c.self.inside.apart c.self.inside.trees c.self.invariant))
    ∙ ap (λ book. reference_count (references_in book.kept) c.args.id.now) c.self.view_is
