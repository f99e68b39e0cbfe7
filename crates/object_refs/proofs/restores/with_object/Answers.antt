use Rattle.std.proofs.Common.{ap, sym, ◌∙◌}
use Rattle.object_refs.specs.Within.Names.{id_number}
use Rattle.object_refs.proofs.Coming.{none_kept}
use Rattle.object_refs.proofs.restores.with_object.Goals as goal

-- the copied id has the same number
pub with_row-requires-clause-number : goal.with_row-requires-clause-number
with_row-requires-clause-number c = c.id_number-number.ensures ∙ ap (λ row. id_number row.id) (sym c.in_ok-duplicate.ensures)

-- no object has the id
pub with_row-requires-clause-id : goal.with_row-requires-clause-id
with_row-requires-clause-id c =
    none_kept c.args.row.now.id c.in_ok-duplicate.field-0.id c.args.book.now
    (sym c.has_id.ensures ∙ c.if-has_id.false)
    (ap (λ row. row.id) c.in_ok-duplicate.ensures)
