use Rattle.std.proofs.Common.{◌≡◌, true, subst}
use Rattle.media_rows.specs.declared.object.ObjectRow.{ObjectRow}
use Rattle.media_rows.specs.Good.{are_object_ids_distinct, rises_by}
use Rattle.object_refs.specs.References.{objects_in}
use Rattle.object_refs.proofs.Ordering.{ids_distinct, serials_rise}
use Rattle.object_refs.proofs.trees.ObjectTrees.is_in_order.Goals as goal

-- objects stand at their serials
pub returns-clause-serials : goal.returns-clause-serials
returns-clause-serials c =
    subst (λ kept. rises_by (λ (row : ObjectRow). row.serial) (objects_in kept) ≡ true) c.self.view_is
    (serials_rise c.self.inside.rows c.keys_rise.ensures c.self.invariant.keyed)

-- each id leads to one serial
pub returns-clause-ids : goal.returns-clause-ids
returns-clause-ids c =
    subst (λ kept. are_object_ids_distinct (objects_in kept) ≡ true) c.self.view_is
    (ids_distinct c.self.inside.rows c.self.inside.names c.self.invariant.named c.keys_rise.ensures)
