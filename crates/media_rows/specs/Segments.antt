-- Segments of flows, by rising serial: which of them a question or a request means, and what a post
-- adds. Our own profile of the Time-addressable Media Store.
use Rattle.std.specs.Prelude.{ℕ, ◌+◌, ◌==◌, nat_lt, ℤ, pos, int_lt, List, [], ◌∷◌, Bool, true, false, not, ◌&&◌, ◌||◌, Option, Some, None, unwrap_or, filter, map, bytes_eq}
use Rattle.std.specs.List.{list_any}
use Rattle.time_range.specs.Points.{low_of}
use Rattle.time_range.specs.declared.ranges.Span.{Span}
use Rattle.media_rows.specs.declared.segment.PostList.{PostList}
use Rattle.media_rows.specs.declared.segment.Segment.{Segment}
use Rattle.media_rows.specs.declared.segment.SegmentRow.{SegmentRow}
use Rattle.media_rows.specs.Lists.{in_order}
use Rattle.media_rows.specs.Ranges.{overlaps, covers, hull_of}

-- the first point of a segment, in half nanoseconds; a good segment has one
abbrev pub first_point : SegmentRow → ℤ
first_point row = unwrap_or (low_of row.segment.range) (pos 0)

-- a low end that is missing stands before all others
abbrev pub low_before : Option ℤ → Option ℤ → Bool
low_before a None = false
low_before None (Some b) = true
low_before (Some a) (Some b) = int_lt a b

-- by first point; two segments that begin at one point, which are never good, stand by serial
abbrev pub starts_before : SegmentRow → SegmentRow → Bool
starts_before a b =
    low_before (low_of a.segment.range) (low_of b.segment.range)
    ||
    (not (low_before (low_of b.segment.range) (low_of a.segment.range)) && nat_lt a.serial b.serial)

-- the segments of one flow, by rising serial
abbrev pub segments_of : ℕ → List SegmentRow → List SegmentRow
segments_of flow segments = filter (λ row. row.flow == flow) segments

-- whether a segment names the object, where one is asked for
abbrev pub names_object : Option (List ℕ) → SegmentRow → Bool
names_object None row = true
names_object (Some object) row = bytes_eq row.segment.object object

-- the segments of a flow that overlap a range and name the object, by rising first point
abbrev pub overlapping : List SegmentRow → ℕ → Option Span → Option (List ℕ) → List SegmentRow
overlapping segments flow range object =
    in_order starts_before
    (filter (λ row. overlaps row.segment.range range && names_object object row)
    (segments_of flow segments))

-- the segments of a flow that a range wholly covers, by rising first point
abbrev pub covered : List SegmentRow → ℕ → Option Span → List SegmentRow
covered segments flow range =
    in_order starts_before
    (filter (λ row. covers range row.segment.range) (segments_of flow segments))

-- the ranges of segments, one for each
abbrev pub ranges_of : List SegmentRow → List (Option Span)
ranges_of segments = map (λ row. row.segment.range) segments

-- the least range that covers all these segments, and never where there are none
abbrev pub hull_of_segments : List SegmentRow → Option Span
hull_of_segments segments = hull_of (ranges_of segments)

-- the segments without these, which are known by their serials
abbrev pub without_segments : List SegmentRow → List SegmentRow → List SegmentRow
without_segments removed segments =
    filter (λ row. not (list_any (λ gone. gone.serial == row.serial) removed)) segments

-- the rows of a post: with rising serials from the next one on, in the post's order
abbrev pub posted : ℕ → ℕ → List Segment → List SegmentRow
posted flow serial [] = []
posted flow serial (segment ∷ later) =
    record { flow = flow; serial = serial; segment = segment } ∷ posted flow (serial + 1) later

-- a post of these segments as a list
abbrev pub list_post : List Segment → PostList
list_post segments = record { single = false; segments = segments }
