use Rattle.std.proofs.Common.{ap, ◌∙◌, option_map}
use Rattle.media_rows.specs.Objects.{object_of}
use Rattle.object_refs.specs.References.{objects_in}
use Rattle.object_refs.specs.Within.Apart.{shown_row}
use Rattle.object_refs.proofs.Shown.{find_shown}
use Rattle.object_refs.proofs.book.ObjectBook.find.Goals as goal

-- a row that stands for another one has its id
pub returns : goal.returns
returns c =
    c.shown_if_any.ensures ∙ ap (option_map (shown_row c.self.inside.apart)) c.find.ensures
    ∙ find_shown c.self.inside.apart c.self.inside.trees c.args.id.now c.self.invariant
    ∙ ap (λ book. object_of c.args.id.now (objects_in book.kept)) c.self.view_is
