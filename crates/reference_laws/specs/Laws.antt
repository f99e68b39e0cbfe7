-- Laws of objects whose references are those of the segments: what is said of references is said of
-- segments, and it stays so with each call of a book of objects.
use Rattle.std.specs.Prelude.{◌≡◌, ℕ, List, ◌∷◌, ◌++◌, Contains, IsFalse, IsTrue, is_some}
use Rattle.media_rows.specs.declared.segment.SegmentRow.{SegmentRow}
use Rattle.media_rows.specs.Good.{are_object_ids_distinct}
use Rattle.media_rows.specs.Objects.{due_objects, flows_naming, idled, is_named, object_of, reference_count}
use Rattle.object_refs.specs.declared.kept.Kept.{Kept}
use Rattle.object_refs.specs.References.{changed_at, flows_in, objects_in, references_in, referred, released, with_new, without_id}
use Rattle.reference_laws.specs.Ties.{AreTied}

-- references name the same of the kept objects as segments do
abbrev pub NamesAreSame : Type 0
NamesAreSame = (segments : List SegmentRow) (kept : List Kept) (k : Kept) → AreTied segments kept
    → Contains kept k → is_named (references_in kept) k.row.id ≡ is_named segments k.row.id

-- so the same objects are due
abbrev pub DueAreSame : Type 0
DueAreSame = (segments : List SegmentRow) (kept : List Kept) (moment : ℕ) → AreTied segments kept
    → due_objects (references_in kept) (objects_in kept) moment
    ≡ due_objects segments (objects_in kept) moment

-- a segment that comes is one reference more of its flow to its object
abbrev pub ReferencesCome : Type 0
ReferencesCome = (front back : List SegmentRow) (row : SegmentRow) (kept : List Kept)
    → AreTied (front ++ back) kept
    → AreTied (front ++ row ∷ back) (changed_at row.segment.object (referred row.flow) kept)

-- objects once a segment went: its reference is gone, and the objects are those that the library
-- has then
pub record Released (front back : List SegmentRow) (row : SegmentRow) (moment : ℕ)
    (kept next : List Kept) : Type 0 where
  pub tied : AreTied (front ++ back) next
  pub objects : objects_in next
      ≡ idled (front ++ row ∷ back) (front ++ back) moment (objects_in kept)

-- a segment that goes is one reference less of its flow to its object
abbrev pub ReferencesGo : Type 0
ReferencesGo = (front back : List SegmentRow) (row : SegmentRow) (moment : ℕ)
    (kept next : List Kept) → AreTied (front ++ row ∷ back) kept
    → objects_in next
    ≡ idled (references_in kept) (references_in next) moment (objects_in kept)
    → flows_in next ≡ flows_in (changed_at row.segment.object (released row.flow) kept)
    → Released front back row moment kept next

-- an object that comes has no reference, where no segment names it
abbrev pub ObjectsCome : Type 0
ObjectsCome = (segments : List SegmentRow) (id : List ℕ) (serial moment : ℕ) (kept : List Kept)
    → AreTied segments kept → IsFalse (is_named segments id)
    → AreTied segments (with_new id serial moment kept)

-- an object that is changed keeps its references, where it keeps its id
abbrev pub ObjectsChange : Type 0
ObjectsChange = (segments : List SegmentRow) (id : List ℕ) (change : Kept → Kept)
    (kept : List Kept) → ((k : Kept) → (change k).row.id ≡ k.row.id)
    → ((k : Kept) → (change k).flows ≡ k.flows) → AreTied segments kept
    → AreTied segments (changed_at id change kept)

-- an object that goes leaves the references to others
abbrev pub ObjectsGo : Type 0
ObjectsGo = (segments : List SegmentRow) (id : List ℕ) (kept : List Kept) → AreTied segments kept
    → AreTied segments (without_id id kept)

-- an object that is kept is referred to by the flows whose segments name it
abbrev pub FlowsAreSame : Type 0
FlowsAreSame = (segments : List SegmentRow) (kept : List Kept) (id : List ℕ) → AreTied segments kept
    → IsTrue (are_object_ids_distinct (objects_in kept))
    → IsTrue (is_some (object_of id (objects_in kept)))
    → flows_naming (references_in kept) id ≡ flows_naming segments id

-- and as often as segments name it
abbrev pub CountsAreSame : Type 0
CountsAreSame = (segments : List SegmentRow) (kept : List Kept) (id : List ℕ)
    → AreTied segments kept → IsTrue (are_object_ids_distinct (objects_in kept))
    → IsTrue (is_some (object_of id (objects_in kept)))
    → reference_count (references_in kept) id ≡ reference_count segments id
