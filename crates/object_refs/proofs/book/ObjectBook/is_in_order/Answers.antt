use Rattle.std.proofs.Common.{ap, sym, ◌∙◌}
use Rattle.media_rows.specs.Good.{are_object_ids_distinct, rises_by}
use Rattle.object_refs.specs.References.{objects_in}
use Rattle.object_refs.proofs.Shown.{distinct_shown, rises_shown}
use Rattle.object_refs.proofs.book.ObjectBook.is_in_order.Goals as goal

-- the row that is held has the serial and the id of the one for which it stands
pub returns-clause-serials : goal.returns-clause-serials
returns-clause-serials c =
    sym (ap (λ book. rises_by (λ row. row.serial) (objects_in book.kept)) c.self.view_is)
    ∙ rises_shown c.self.inside.apart c.self.inside.trees c.self.invariant ∙ c.is_in_order.ensures.serials

pub returns-clause-ids : goal.returns-clause-ids
returns-clause-ids c =
    sym (ap (λ book. are_object_ids_distinct (objects_in book.kept)) c.self.view_is)
    ∙ distinct_shown c.self.inside.apart c.self.inside.trees c.self.invariant ∙ c.is_in_order.ensures.ids
