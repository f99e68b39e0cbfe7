-- What the calls on delete requests say: which request is due, what a step asks of its caller, and
-- what a step and a sweep leave. Our own rules.
use Rattle.std.specs.Prelude.{◌≡◌, ◌≤◌, ℕ, ◌==◌, nat_lt, List, [], ◌∷◌, Bool, not, IsTrue, Some, filter, map}
use Rattle.std.specs.List.{list_all, list_any}
use Rattle.media_rows.specs.declared.object.ObjectRow.{ObjectRow}
use Rattle.media_rows.specs.declared.request.DeleteRow.{DeleteRow}
use Rattle.media_rows.specs.declared.segment.SegmentRow.{SegmentRow}
use Rattle.media_rows.specs.Lists.{are_distinct}
use Rattle.media_rows.specs.Objects.{reference_count}
use Rattle.media_rows.specs.Requests.{first_unfinished}
use Rattle.media_rows.specs.Segments.{segments_of}
use Rattle.object_refs.specs.declared.kept.Kept.{Kept}
use Rattle.object_refs.specs.References.{changed_at, references_in, released_at}

-- ---- requests

-- each request has a lower serial
abbrev pub are_requests_below : ℕ → List DeleteRow → Bool
are_requests_below serial requests = list_all (λ row. nat_lt row.serial serial) requests

-- a fact of the request that is due, where one is
abbrev pub OfDue : List DeleteRow → (DeleteRow → Type 0) → Type 0
OfDue requests Fact =
    (request : DeleteRow) → first_unfinished requests ≡ Some request → Fact request

-- ---- segments and objects of a step

-- the segments are of one flow, and no two have one serial
pub record AreOfFlow (flow : ℕ) (segments : List SegmentRow) : Type 0 where
  pub flows : IsTrue (list_all (λ row. row.flow == flow) segments)
  pub serials : IsTrue (are_distinct (map (λ row. row.serial) segments))

-- each object has at least as many references of a flow as these segments name it
abbrev pub HasReferences : ℕ → List SegmentRow → List Kept → Type 0
HasReferences flow segments kept =
    (object : List ℕ) → reference_count segments object
    ≤ reference_count (segments_of flow (references_in kept)) object

-- the objects with one reference less for each of these segments: of its flow, to the object that
-- it names; one that loses its last is idle since this moment
abbrev pub released_by : ℕ → List SegmentRow → List Kept → List Kept
released_by moment [] kept = kept
released_by moment (row ∷ rows) kept =
    released_by moment rows (changed_at row.segment.object (released_at row.flow moment) kept)

-- ---- objects of a sweep

-- the objects without these, with the references to the others
abbrev pub without_swept : List ObjectRow → List Kept → List Kept
without_swept gone kept =
    filter (λ k. not (list_any (λ other. other.serial == k.row.serial) gone)) kept
