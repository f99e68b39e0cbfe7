-- Segments as pairs of a first point and a row, as a version keeps them.
use Rattle.std.specs.Prelude.{◌≡◌, ℤ, Bool, int_le, if◌then◌else◌, pos, negsuc, ◌<ℤ◌, ◌≤ℤ◌, ◌^◌, ◌-◌, List, [], ◌∷◌, Option, Some, None, unwrap_or, option_map, ⊤}
use Rattle.std.specs.List.{AllByRecursion}
use Rattle.time_range.specs.Points.{low_of, high_of}
use Rattle.time_range.specs.declared.ranges.Span.{Span}
use Rattle.media_rows.specs.declared.segment.SegmentRow.{SegmentRow}

-- the last point of a segment; a kept one has one
abbrev pub last_point : SegmentRow → ℤ
last_point row = unwrap_or (high_of row.segment.range) (pos 0)

-- a pair of a segment's first point and the segment, which is bounded at both ends
pub record IsKeyed (p : ℤ × SegmentRow) : Type 0 where
  pub low : low_of p.1.segment.range ≡ Some p.0
  pub high : high_of p.1.segment.range ≡ Some (last_point p.1)
  pub ordered : p.0 ≤ℤ last_point p.1
  pub inner : negsuc (2 ^ 127 - 1) <ℤ p.0
  pub outer : p.0 <ℤ pos (2 ^ 127 - 1)

-- each segment ends before all later ones begin
abbrev pub IsApart : List (ℤ × SegmentRow) → Type 0
IsApart [] = ⊤
IsApart (p ∷ ps) = AllByRecursion (λ q. last_point p.1 <ℤ q.0) ps × IsApart ps

-- what holds of the pairs of an index
pub record IsIndex (pairs : List (ℤ × SegmentRow)) : Type 0 where
  pub keyed : AllByRecursion IsKeyed pairs
  pub apart : IsApart pairs

-- whether a pair's segment ends at a point or behind it, and whether it begins up to one
abbrev pub reaches : ℤ → ℤ × SegmentRow → Bool
reaches point p = int_le point (last_point p.1)

abbrev pub begins_by : ℤ → ℤ × SegmentRow → Bool
begins_by point p = int_le p.0 point

-- the pairs behind a point, and before them the last one up to it, where that reaches it
abbrev pub from_last : ℤ → Option (ℤ × SegmentRow) → List (ℤ × SegmentRow) → List (ℤ × SegmentRow)
from_last point None behind = behind
from_last point (Some p) behind = if reaches point p then p ∷ behind else behind

-- a range with these ends, where one that is missing is open
abbrev pub span : Option ℤ → Option ℤ → Option Span
span low high = Some (record { low = low; high = high })

-- a pair that reaches a point, and one that begins by one, if there is a pair
abbrev pub reaching : ℤ → Option (ℤ × SegmentRow) → Option (ℤ × SegmentRow)
reaching point None = None
reaching point (Some p) = if reaches point p then Some p else None

abbrev pub beginning_by : ℤ → Option (ℤ × SegmentRow) → Option (ℤ × SegmentRow)
beginning_by point None = None
beginning_by point (Some p) = if begins_by point p then Some p else None

-- the segment of a pair, if there is one
abbrev pub row_of : Option (ℤ × SegmentRow) → Option SegmentRow
row_of pair = option_map (λ p. p.1) pair

-- a segment, or another where there is none
abbrev pub segment_or : Option SegmentRow → SegmentRow → SegmentRow
segment_or None other = other
segment_or (Some row) other = row
