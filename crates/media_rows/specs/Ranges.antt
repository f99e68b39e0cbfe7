-- Ranges as tests on their ends: whether two overlap, whether one covers another, and the least
-- that covers two. `Overlap`, `Covers` and what a hull is are defined on points by the crate of
-- ranges; laws tie the two.
use Rattle.std.specs.Prelude.{ℤ, int_le, List, [], ◌∷◌, Bool, true, false, ◌&&◌, Option, Some, None, is_some, is_none}
use Rattle.std.specs.Int.{int_min, int_max}
use Rattle.time_range.specs.declared.ranges.Span.{Span}
pub use Rattle.time_range.specs.Points.{eternity}
use Rattle.time_range.specs.Ends.{are_ordered}

-- whether a low end stands at no later point than another
abbrev pub reaches_down : Option ℤ → Option ℤ → Bool
reaches_down None inner = true
reaches_down (Some a) None = false
reaches_down (Some a) (Some b) = int_le a b

-- whether a high end stands at no earlier point than another
abbrev pub reaches_up : Option ℤ → Option ℤ → Bool
reaches_up None inner = true
reaches_up (Some a) None = false
reaches_up (Some a) (Some b) = int_le b a

-- two ranges overlap: neither is never, and neither begins behind the other's end
abbrev pub overlaps : Option Span → Option Span → Bool
overlaps None b = false
overlaps (Some a) None = false
overlaps (Some a) (Some b) = are_ordered a.low b.high && are_ordered b.low a.high

-- a range covers another: that one is never, or no end of it stands outside
abbrev pub covers : Option Span → Option Span → Bool
covers outer None = true
covers None (Some inner) = false
covers (Some outer) (Some inner) =
    reaches_down outer.low inner.low && reaches_up outer.high inner.high

-- the lower of two low ends, and the higher of two high ends, where an open end goes furthest
abbrev pub lower : Option ℤ → Option ℤ → Option ℤ
lower None b = None
lower (Some a) None = None
lower (Some a) (Some b) = Some (int_min a b)

-- the higher of two high ends, where an open end goes furthest
abbrev pub higher : Option ℤ → Option ℤ → Option ℤ
higher None b = None
higher (Some a) None = None
higher (Some a) (Some b) = Some (int_max a b)

-- the least range that covers both
abbrev pub hull : Option Span → Option Span → Option Span
hull None b = b
hull (Some a) None = Some a
hull (Some a) (Some b) = Some (record { low = lower a.low b.low; high = higher a.high b.high })

-- the least range that covers all
abbrev pub hull_of : List (Option Span) → Option Span
hull_of [] = None
hull_of (range ∷ ranges) = hull range (hull_of ranges)

-- a range that isn't never and is open at neither end
abbrev pub has_both_ends : Option Span → Bool
has_both_ends None = false
has_both_ends (Some s) = is_some s.low && is_some s.high

-- the range of all points
abbrev pub is_eternity : Option Span → Bool
is_eternity None = false
is_eternity (Some s) = is_none s.low && is_none s.high
