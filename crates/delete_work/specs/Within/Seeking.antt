-- What a step and a sweep have done so far: segments on which a request works are looked for page
-- by page, references go one by one, and so do the objects that are due.
use Rattle.std.specs.Prelude.{◌≡◌, ℕ, suc, ◌-◌, ◌==◌, nat_lt, ℤ, List, [], ◌∷◌, ◌++◌, Bool, true, false, ◌&&◌, Option, Some, None, filter, length, take}
use Rattle.std.specs.List.{list_all}
use Rattle.media_rows.specs.declared.object.ObjectRow.{ObjectRow}
use Rattle.media_rows.specs.declared.request.DeleteRow.{DeleteRow}
use Rattle.media_rows.specs.declared.segment.SegmentRow.{SegmentRow}
use Rattle.media_rows.specs.Lists.{is_past}
use Rattle.media_rows.specs.Objects.{due_objects, idled, is_named, sweep_size}
use Rattle.media_rows.specs.Ranges.{covers}
use Rattle.media_rows.specs.Segments.{first_point}
use Rattle.segment_index.specs.Answers.{met, without_start}
use Rattle.object_refs.specs.declared.kept.Kept.{Kept}
use Rattle.object_refs.specs.References.{objects_in, references_in}
use Rattle.delete_work.specs.Work.{HasReferences, released_by, without_swept}

-- ---- segments

-- a request works on a segment: its range covers it, and it was there before the request
abbrev pub is_wanted_by : DeleteRow → SegmentRow → Bool
is_wanted_by request row =
    covers request.range row.segment.range && nat_lt row.serial request.serial

-- the segments of an index that have a point in the request's range and begin behind a point
abbrev pub ahead : List SegmentRow → DeleteRow → Option ℤ → List SegmentRow
ahead rows request after =
    filter (λ row. is_past after false (first_point row)) (met rows request.range)

-- those behind a key, where there is one, and otherwise none
abbrev pub left_behind : List SegmentRow → DeleteRow → Option ℤ → List SegmentRow
left_behind rows request None = []
left_behind rows request (Some key) = ahead rows request (Some key)

-- how many looks are left at most
abbrev pub looks_left : List SegmentRow → DeleteRow → Option ℤ → ℕ
looks_left rows request None = 0
looks_left rows request (Some key) = suc (length (ahead rows request (Some key)))

-- the segments but those that begin where one of these does
abbrev pub without_starts : List SegmentRow → List SegmentRow → List SegmentRow
without_starts [] rows = rows
without_starts (gone ∷ more) rows = without_starts more (without_start (first_point gone) rows)

-- ---- references

-- segments are of one flow
abbrev pub are_of : ℕ → List SegmentRow → Bool
are_of flow rows = list_all (λ row. row.flow == flow) rows

-- references went, and those of some segments are left to go
pub record Releasing (flow moment : ℕ) (start next : List Kept) (all left : List SegmentRow)
    : Type 0 where
  pub flows : are_of flow left ≡ true
  pub has : HasReferences flow left next
  pub book : released_by moment left next ≡ released_by moment all start
  pub idle : objects_in next
      ≡ idled (references_in start) (references_in next) moment (objects_in start)
  pub named : (object : List ℕ) → is_named (references_in next) object ≡ true
      → is_named (references_in start) object ≡ true

-- ---- a sweep

-- so many objects were taken, and the others are left
pub record Sweeping (moment taken : ℕ) (start kept : List Kept) (gone : List ObjectRow) : Type 0
  where
    pub all : gone ++ take (sweep_size - taken)
        (due_objects (references_in kept) (objects_in kept) moment)
        ≡ take sweep_size (due_objects (references_in start) (objects_in start) moment)
    pub left : kept ≡ without_swept gone start
    pub references : references_in kept ≡ references_in start
