-- The references that a book of objects keeps are those of the segments. Our own rules.
use Rattle.std.specs.Prelude.{◌≡◌, ℕ, nat_lt, List, map}
use Rattle.std.specs.List.{AllByRecursion}
use Rattle.media_rows.specs.declared.segment.SegmentRow.{SegmentRow}
use Rattle.media_rows.specs.Lists.{in_order}
use Rattle.media_rows.specs.Objects.{references}
use Rattle.object_refs.specs.declared.kept.Kept.{Kept}

-- the flows whose segments name an object, by rising id, each as often as they do
abbrev pub flows_to : List SegmentRow → List ℕ → List ℕ
flows_to segments id = in_order nat_lt (map (λ row. row.flow) (references segments id))

-- at each object stand the flows whose segments name it
abbrev pub AreTied : List SegmentRow → List Kept → Type 0
AreTied segments kept = AllByRecursion (λ k. k.flows ≡ flows_to segments k.row.id) kept
