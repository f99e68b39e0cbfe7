-- An edit by hand: a library with a source of two flows, a segment of the first flow, and one row
-- that takes it, and some of the gap behind it, for the second flow. Our own example.
use Rattle.std.specs.Prelude.{◌≡◌, ℕ, ℤ, neg_ℤ, ◌+ℤ◌, List, [], ◌∷◌, ◌++◌, false, Option, Some, None, codes}
use Rattle.time_range.specs.Points.{Has, instant}
use Rattle.time_range.specs.declared.ranges.Span.{Span}
use Rattle.media_rows.specs.declared.flow.FlowRow.{FlowRow}
use Rattle.media_rows.specs.declared.flow.FormatKind.TheVariants.{Video}
use Rattle.media_rows.specs.declared.object.ObjectState.TheVariants.{Stored}
use Rattle.media_rows.specs.declared.segment.PostList.{PostList}
use Rattle.media_rows.specs.declared.segment.Segment.{Segment}
use Rattle.media_rows.specs.declared.segment.SegmentRow.{SegmentRow}
use Rattle.media_rows.specs.Library.{Library, empty_library}
use Rattle.media_rows.specs.Segments.{list_post, posted}
use Rattle.segment_pieces.specs.Worked.{from_to, seconds, segment_with}
use Rattle.range_edit.specs.Assembling.{place_of, shift_of}
use Rattle.range_edit.specs.declared.list.EditRow.{EditRow}
use Rattle.edit_laws.specs.Laws.{HaveSoundRanges, IsGoodCut}
use Rattle.edit_laws.specs.Showing.{Shown, shows}

-- ---- the library

-- the flow from which is taken
abbrev pub from_flow : ℕ
from_flow = 241

-- the flow for which is cut
abbrev pub to_flow : ℕ
to_flow = 242

-- a video flow of the one source, of which nothing else is said
abbrev pub bare_flow : ℕ → FlowRow
bare_flow id = record {
  body = record {
    id = id;
    source = 161;
    format = Video;
    read_only = false;
    codec = None;
    container = None;
    label = None;
    description = None;
    max_bit_rate = None;
    avg_bit_rate = None;
    tags = [];
    members = [];
    essence = None;
  };
  created = 0;
  metadata_updated = 0;
  segments_updated = None;
}

-- a segment of 250 samples of the object `a`
abbrev pub segment_of_a : Option Span → ℤ → Segment
segment_of_a range ts_offset = record (segment_with range ts_offset 0 250) { object = codes "a" }

-- the one segment: ten seconds from zero on, whose media begins at its second 5
abbrev pub source_segment : Segment
source_segment = segment_of_a (from_to 0 10) (neg_ℤ (seconds 5))

-- the segments before the post
abbrev pub old_segments : List SegmentRow
old_segments = record { flow = from_flow; serial = 2; segment = source_segment } ∷ []

-- the library with these, and nothing in the second flow
abbrev pub worked_library : Library
worked_library = record (empty_library 1 46) {
  catalog = record {
    sources = record {
      id = 161;
      format = Video;
      label = None;
      description = None;
      tags = [];
      created = 0;
      updated = 0;
    } ∷ [];
    flows = bare_flow from_flow ∷ bare_flow to_flow ∷ [];
  };
  segments = old_segments;
  objects = record {
    id = codes "a";
    serial = 1;
    state = Stored 0 3 None;
    idle_since = 0;
  } ∷ [];
  next_serial = 3;
}

-- ---- the edit

-- fifteen seconds of the first flow, five of which are a gap, from the second 20 on
abbrev pub worked_row : EditRow
worked_row = record { flow = from_flow; range = from_to 0 15; at = seconds 20 }

-- the one piece: ten seconds from the second 20 on, whose media begins at its second 5
abbrev pub worked_posts : PostList
worked_posts = list_post (segment_of_a (from_to 20 30) (seconds 15) ∷ [])

-- the segments behind the post
abbrev pub new_segments : List SegmentRow
new_segments = old_segments ++ posted to_flow 3 worked_posts.segments

-- what a flow shows then at the beginning of a second
abbrev pub shown_then : ℕ → ℕ → Option Shown
shown_then flow second = shows new_segments flow (instant (seconds second))

-- the row's place has the beginning of a second
abbrev pub IsPlaced : ℕ → Type 0
IsPlaced second = Has (place_of worked_row) (instant (seconds second))

-- The row is cut as it should be. At the second 21 the target shows the second 6 of the object, as
-- its source does at the second 1; at the second 32, which stands for one of the gap, and at the
-- second 40, which is in no row's place, it shows nothing.
pub record ArePointsAsWorked : Type 0 where
  pub cut : IsGoodCut worked_library to_flow (worked_row ∷ []) worked_posts
  pub sound : HaveSoundRanges worked_library (worked_row ∷ [])
  pub source : shown_then from_flow 1
      ≡ Some (record { object = codes "a"; point = instant (seconds 6) })
  pub inside_place : IsPlaced 21
  pub inside : shown_then to_flow 21
      ≡ Some (record { object = codes "a"; point = instant (seconds 6) })
  pub gap_place : IsPlaced 32
  pub gap : shown_then to_flow 32 ≡ None
  pub outside_place : ¬ (IsPlaced 40)
  pub outside : shown_then to_flow 40 ≡ None

-- ---- a wrong law

-- Where the shift is added instead of taken off, the target doesn't show what its source showed.
abbrev pub IsTakenOff : Type 0
IsTakenOff =
    ¬ (shown_then to_flow 21
    ≡ shows old_segments from_flow (instant (seconds 21) +ℤ instant (shift_of worked_row)))
