use Rattle.std.proofs.Common.{rules, ap, ◌∙◌}
use Rattle.std.proofs.lemmas.List.Sorted.{answers_always}
use Rattle.media_rows.specs.declared.segment.SegmentRow.{SegmentRow}
use Rattle.media_rows.specs.Lists.{in_order}
use Rattle.media_rows.specs.Snapshot.{older}
use Rattle.core_restore.proofs.Sorting.{sorted_is}
use Rattle.core_restore.proofs.order.by_serial.Goals as goal

-- a stable sort of the copies is their order
pub returns : goal.returns
returns c =
    c.from_vec.ensures
    ∙ sorted_is (λ (row : SegmentRow). row.serial) _ _
    (c.in_ok-sort_by_key.ensures.sorted (λ row. row.serial) (answers_always _ _ _ (λ f a r g h. search rules)))
    (c.in_ok-sort_by_key.ensures.stable (λ row. row.serial) (answers_always _ _ _ (λ f a r g h. search rules)))
    ∙ ap (in_order older) (c.in_ok-copies.ensures ∙ c.items.ensures)
