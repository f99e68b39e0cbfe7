use Rattle.std.proofs.Common.{ap, ◌∙◌, option_map}
use Rattle.media_rows.specs.Objects.{due_objects}
use Rattle.shared_tree.specs.Pairs.{first}
use Rattle.object_refs.specs.References.{objects_in, references_in}
use Rattle.object_refs.specs.Within.Apart.{shown_row}
use Rattle.object_refs.proofs.Shown.{due_shown}
use Rattle.object_refs.proofs.book.ObjectBook.first_idle.Goals as goal

-- what is due, and in which order, doesn't depend on digests
pub returns : goal.returns
returns c =
    c.shown_if_any.ensures ∙ ap (option_map (shown_row c.self.inside.apart)) c.first_idle.ensures
    ∙ due_shown c.self.inside.apart c.self.inside.trees c.args.now c.self.invariant
    ∙ ap (λ book. first (due_objects (references_in book.kept) (objects_in book.kept) c.args.now)) c.self.view_is
