use Rattle.std.proofs.Common.{ap, sym, ◌∙◌}
use Rattle.media_rows.specs.Objects.{flows_naming}
use Rattle.object_refs.specs.References.{references_in}
use Rattle.object_refs.proofs.Lists.{if_ok}
use Rattle.object_refs.proofs.Shown.{references_shown}
use Rattle.object_refs.proofs.book.ObjectBook.flows_of.Goals as goal

-- references don't depend on digests
pub returns : goal.returns
returns c =
    if_ok c.flows_of.result
    (λ list is. is
    ∙ sym (ap (λ refs. flows_naming refs c.args.id.now) (references_shown c.self.inside.apart c.self.inside.trees c.self.invariant))
    ∙ ap (λ book. flows_naming (references_in book.kept) c.args.id.now) c.self.view_is)
    c.flows_of.ensures
