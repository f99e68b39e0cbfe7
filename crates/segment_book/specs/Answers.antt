-- What adding a segment to all segments answers, which stand by rising serial. Our own profile of
-- the Time-addressable Media Store.
use Rattle.std.specs.Prelude.{◌==◌, ℕ, List, Bool, not, Option, None, slice_get}
use Rattle.std.specs.List.{list_all, list_any}
use Rattle.time_range.specs.declared.ranges.Span.{Span}
use Rattle.media_rows.specs.declared.refusal.Refusal.{Refusal}
use Rattle.media_rows.specs.declared.segment.SegmentRow.{SegmentRow}
use Rattle.media_rows.specs.Posts.{overlap_refusal}
use Rattle.media_rows.specs.Ranges.{overlaps}
use Rattle.media_rows.specs.Segments.{overlapping, segments_of}
use Rattle.media_rows.specs.Snapshot.{older}

-- two segments have serials of their own
abbrev pub has_other_serial : SegmentRow → SegmentRow → Bool
has_other_serial a b = not (a.serial == b.serial)

-- none of these segments has the serial of this one
abbrev pub is_new : List SegmentRow → SegmentRow → Bool
is_new segments row = list_all (has_other_serial row) segments

-- each of these segments has a lower serial than this one
abbrev pub are_older : List SegmentRow → SegmentRow → Bool
are_older segments row = list_all (λ other. older other row) segments

-- the refusal to add a segment: one of its flow overlaps it, of which the first is told
abbrev pub meeting_refusal : List SegmentRow → SegmentRow → Option Refusal
meeting_refusal segments row =
    overlap_refusal (slice_get (overlapping segments row.flow row.segment.range None) 0)

-- whether a segment of a flow has a point in a range
abbrev pub is_flow_met : List SegmentRow → ℕ → Option Span → Bool
is_flow_met segments flow range =
    list_any (λ s. overlaps s.segment.range range) (segments_of flow segments)
