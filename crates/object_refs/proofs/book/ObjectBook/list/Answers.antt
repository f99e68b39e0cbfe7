use Rattle.std.proofs.Common.{ap, sym, ◌∙◌}
use Rattle.object_refs.specs.References.{objects_in}
use Rattle.object_refs.proofs.Lists.{if_ok}
use Rattle.object_refs.proofs.Shown.{shown_objects}
use Rattle.object_refs.proofs.book.ObjectBook.list.Goals as goal

pub returns : goal.returns
returns c =
    if_ok c.list.result
    (λ list is. is ∙ sym (shown_objects c.self.inside.apart c.self.inside.trees) ∙ ap (λ book. objects_in book.kept) c.self.view_is)
    c.list.ensures
