-- The playlist of a flow's whole objects within a range.
use Rattle.std.specs.Prelude.{ℕ, ◌==◌, ℤ, pos, ◌+ℤ◌, ◌-ℤ◌, unsigned_abs, Bool, false, not, ◌&&◌, List, [], ◌∷◌, Option, Some, None, filter, fold, map, max}
use Rattle.std.specs.Ordering.{int_eq}
use Rattle.time_range.specs.Points.{high_instant, high_of, low_instant, low_of}
use Rattle.time_range.specs.declared.ranges.Span.{Span}
use Rattle.media_rows.specs.declared.segment.SegmentRow.{SegmentRow}
use Rattle.media_rows.specs.Ranges.{covers}
use Rattle.media_rows.specs.Segments.{overlapping}
use Rattle.json_replies.specs.Addresses.{media_address}
use Rattle.hls_manifest.specs.declared.listing.Entry.{Entry}
use Rattle.hls_manifest.specs.declared.listing.Listing.{Listing}
use Rattle.hls_manifest.specs.Playlists.{playlist_text, rounded}

-- ---- durations

-- the nanoseconds between two points, where there are two
abbrev pub nanos_between : Option ℤ → Option ℤ → ℕ
nanos_between (Some low) (Some high) = unsigned_abs (high_instant high -ℤ low_instant low)
nanos_between (Some low) None = 0
nanos_between None high = 0

-- The duration of a segment, in nanoseconds: from the instant of its first point to that of its
-- last one. A good segment has both points.
abbrev pub duration_of : SegmentRow → ℕ
duration_of row = nanos_between (low_of row.segment.range) (high_of row.segment.range)

-- ---- whole objects

-- a segment shows a whole object within the range: the range covers it, it begins with the object's
-- first sample, and it lasts
abbrev pub is_whole : Option Span → SegmentRow → Bool
is_whole range row =
    covers range row.segment.range
    && (row.segment.sample_offset == 0)
    && not (duration_of row == 0)

-- the segments of a flow that show whole objects within a range, by rising first point
abbrev pub whole_objects : List SegmentRow → ℕ → Option Span → List SegmentRow
whole_objects segments flow range =
    filter (is_whole range) (overlapping segments flow range None)

-- ---- entries

-- whether a point is the one behind another
abbrev pub is_next : Option ℤ → Option ℤ → Bool
is_next (Some last) (Some first) = int_eq (last +ℤ pos 1) first
is_next (Some last) None = false
is_next None first = false

-- whether a segment goes on where the last one ended, on the same clock of media
abbrev pub goes_on : SegmentRow → SegmentRow → Bool
goes_on last row =
    is_next (high_of last.segment.range) (low_of row.segment.range)
    && int_eq last.segment.ts_offset row.segment.ts_offset

-- whether media break off before a segment, behind the last one, if there is one
abbrev pub is_broken : Option SegmentRow → SegmentRow → Bool
is_broken None row = false
is_broken (Some last) row = not (goes_on last row)

-- the entry of a segment behind the last one, if there is one
abbrev pub entry_of : List ℕ → Option SegmentRow → SegmentRow → Entry
entry_of base last row = record {
  nanos = duration_of row;
  broken = is_broken last row;
  address = media_address base row.segment.object;
}

-- the entries of segments one behind another
abbrev pub entries_behind : List ℕ → Option SegmentRow → List SegmentRow → List Entry
entries_behind base last [] = []
entries_behind base last (row ∷ rows) =
    entry_of base last row ∷ entries_behind base (Some row) rows

-- the least number from 1 up that none of these exceeds
abbrev pub least_target : List ℕ → ℕ
least_target numbers = fold max 1 numbers

-- the listing of segments, whose objects are got behind a base
abbrev pub listing_of : List ℕ → List SegmentRow → Listing
listing_of base rows = record {
  target = least_target (map (λ row. rounded (duration_of row)) rows);
  entries = entries_behind base None rows;
}

-- the playlist of segments
abbrev pub manifest_text : List ℕ → List SegmentRow → List ℕ
manifest_text base rows = playlist_text (listing_of base rows)
