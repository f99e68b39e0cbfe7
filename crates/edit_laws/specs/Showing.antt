-- Showing: what a flow shows at each point of its line. Our own profile of the Time-addressable
-- Media Store.
use Rattle.std.specs.Prelude.{ℕ, ℤ, ◌-ℤ◌, List, Option, Some, option_map, filter, slice_get}
use Rattle.time_range.specs.Points.{instant}
use Rattle.time_range.specs.declared.ranges.Span.{Span}
use Rattle.media_rows.specs.declared.segment.SegmentRow.{SegmentRow}
use Rattle.media_rows.specs.Ranges.{covers}
use Rattle.media_rows.specs.Segments.{segments_of}

-- what is shown at a point: an object, and the point of its media in half nanoseconds
pub record Shown : Type 0 where
  pub object : List ℕ
  pub point : ℤ

-- the range of one point alone
abbrev pub just : ℤ → Option Span
just p = Some (record { low = Some p; high = Some p })

-- what a segment shows at a point of its flow's line
abbrev pub shown_by : ℤ → SegmentRow → Shown
shown_by p row =
    record { object = row.segment.object; point = p -ℤ instant row.segment.ts_offset }

-- the segments of a flow that contain a point
abbrev pub showing : List SegmentRow → ℕ → ℤ → List SegmentRow
showing segments flow p =
    filter (λ row. covers row.segment.range (just p)) (segments_of flow segments)

-- what a flow shows at a point: what the segment that contains it shows, or nothing where none does
abbrev pub shows : List SegmentRow → ℕ → ℤ → Option Shown
shows segments flow p = option_map (shown_by p) (slice_get (showing segments flow p) 0)
