-- Where the walk for a page begins among pairs of a first point and a segment.
use Rattle.std.specs.Prelude.{◌≡◌, ℤ, pos, negsuc, ◌<ℤ◌, ◌^◌, ◌-◌, Bool, true, false, ◌&&◌, if◌then◌else◌, List, Option, Some, None}
use Rattle.std.specs.List.{AllByRecursion}
use Rattle.time_range.specs.declared.ranges.Span.{Span}
use Rattle.time_range.specs.Ends.{are_ordered}
use Rattle.time_range.specs.Points.{high_of, low_of}
use Rattle.media_rows.specs.declared.segment.SegmentRow.{SegmentRow}
use Rattle.media_rows.specs.Lists.{is_past}
use Rattle.shared_tree.specs.Pairs.{is_from, is_up_to}
use Rattle.segment_index.specs.Answers.{is_met}
use Rattle.segment_index.specs.Within.Keyed.{last_point, reaches}

-- a point that is neither the least nor the greatest of an `i128`
abbrev pub IsInner : ℤ → Type 0
IsInner point = (negsuc (2 ^ 127 - 1) <ℤ point) × (point <ℤ pos (2 ^ 127 - 1))

-- the point from which on all segments reach a point, where this is the last that begins up to it
abbrev pub walk_start : ℤ → Option (ℤ × SegmentRow) → ℤ
walk_start point None = point
walk_start point (Some p) = if reaches point p then p.0 else point

-- a pair's segment begins by a high end, and ends behind a low one
abbrev pub begins : Option ℤ → ℤ × SegmentRow → Bool
begins high p = are_ordered (Some p.0) high

abbrev pub ends : Option ℤ → ℤ × SegmentRow → Bool
ends low p = are_ordered low (Some (last_point p.1))

-- a pair is wanted on a page: it lies behind the page's key, and its segment meets the range
abbrev pub is_wanted : Option Span → Option ℤ → Bool → ℤ × SegmentRow → Bool
is_wanted range after backwards p = is_past after backwards p.0 && is_met range p.1

-- From this point on stand all pairs that are wanted, and others only where they begin too late.
pub record StartsPage (range : Option Span) (after : Option ℤ) (point : ℤ)
    (ps : List (ℤ × SegmentRow)) : Type 0 where
  pub wanted : AllByRecursion
      (λ p. (is_from point p && is_met range p.1) ≡ is_wanted range after false p) ps
  pub reached : AllByRecursion (λ p. is_from point p ≡ true → ends (low_of range) p ≡ true) ps

-- the same of a page in reverse: others end too early
pub record StartsReverse (range : Option Span) (after : Option ℤ) (point : ℤ)
    (ps : List (ℤ × SegmentRow)) : Type 0 where
  pub wanted : AllByRecursion
      (λ p. (is_up_to point p && is_met range p.1) ≡ is_wanted range after true p) ps
  pub begun : AllByRecursion (λ p. is_up_to point p ≡ true → begins (high_of range) p ≡ true) ps
