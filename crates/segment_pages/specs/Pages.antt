-- Segments of a flow within a range, as they are read page by page.
use Rattle.std.specs.Prelude.{◌≡◌, ◌≢◌, ◌≤◌, ◌+◌, ℕ, ℤ, false, List, [], ◌++◌, length, take, slice_get, Option, Some, None, IfSome, IsSome, option_and_then}
use Rattle.time_range.specs.Points.{low_of}
use Rattle.time_range.specs.declared.ranges.Span.{Span}
use Rattle.media_rows.specs.declared.command.Page.{Page}
use Rattle.media_rows.specs.declared.command.Query.{Query}
use Rattle.media_rows.specs.declared.command.Query.TheVariants as queries
use Rattle.media_rows.specs.declared.refusal.BookFault.{BookFault}
use Rattle.media_rows.specs.declared.refusal.BookFault.TheVariants as books
use Rattle.media_rows.specs.declared.segment.SegmentRow.{SegmentRow}
use Rattle.media_rows.specs.Catalog.{flow_of}
use Rattle.media_rows.specs.Library.{Library}
use Rattle.media_rows.specs.Lists.{items_past, next_key, page_items}
use Rattle.media_rows.specs.Ranges.{overlaps}
use Rattle.media_rows.specs.Segments.{first_point, overlapping}
use Rattle.segment_pages.specs.declared.reading.SegmentsRead.{SegmentsRead}

-- the page behind a point, or from the first segment on
abbrev pub page_behind : Option ℤ → Page
page_behind after = record { after = after; limit = 1000; reverse = false }

-- the segments of a flow that overlap a range, by rising first point, of which each begins behind
-- the point, where there is one
abbrev pub segments_behind : Library → ℕ → Option Span → Option ℤ → List SegmentRow
segments_behind library flow range after =
    items_past first_point (page_behind after) (overlapping library.segments flow range None)

-- those that are left behind the point that a read tells
abbrev pub left_behind : Library → ℕ → Option Span → Option ℤ → List SegmentRow
left_behind library flow range None = []
left_behind library flow range (Some next) = segments_behind library flow range (Some next)

-- A read gives the first segments behind a point, and tells where the others stand; where there are
-- others it gives at least one, and it never gives more than a page has.
pub record IsRead (library : Library) (flow : ℕ) (range : Option Span) (after : Option ℤ)
    (read : SegmentsRead) : Type 0 where
  pub follows : segments_behind library flow range after
      ≡ take read.count read.rows ++ left_behind library flow range read.next
  pub counted : read.count ≤ length read.rows
  pub most : length read.rows ≤ 1000
  pub some : IsSome read.next → 1 ≤ read.count

-- a refusal says that the flow isn't kept; want of memory says nothing
abbrev pub RefusesFlow : Library → ℕ → BookFault → Type 0
RefusesFlow library flow (books.Refused why) = flow_of flow library.catalog.flows ≡ None
RefusesFlow library flow books.Memory = Unit {0}

-- ---- within this crate

-- the rows of a page, and the key of its last one where further ones lie behind it
pub record IsPageOf (library : Library) (flow : ℕ) (range : Option Span) (after : Option ℤ)
    (rows : List SegmentRow) (next : Option ℤ) : Type 0 where
  pub kept : IsSome (flow_of flow library.catalog.flows)
  pub rows_are : rows
      ≡ page_items first_point (page_behind after) (overlapping library.segments flow range None)
  pub next_is : next
      ≡ next_key first_point (page_behind after) (overlapping library.segments flow range None)

-- the question for such a page
abbrev pub question_of : ℕ → Option Span → Option ℤ → Query
question_of flow range after =
    queries.Segments flow (record { range = range; object = None }) (page_behind after)

-- the first point of the segment at a place, where there is one
abbrev pub point_at : List SegmentRow → ℕ → Option ℤ
point_at rows at = option_and_then (λ row. low_of row.segment.range) (slice_get rows at)

-- two ranges that don't overlap begin at two points
abbrev pub AreApartRanges : Option Span → Option Span → Type 0
AreApartRanges a b =
    overlaps a b ≡ false → IfSome (low_of a) (λ p. IfSome (low_of b) (λ q. p ≢ q))

-- the same of the segment at a place and the one behind it
abbrev pub AreApart : List SegmentRow → ℕ → Type 0
AreApart rows at = IfSome (slice_get rows at)
    (λ a. IfSome (slice_get rows (at + 1)) (λ b. AreApartRanges a.segment.range b.segment.range))
