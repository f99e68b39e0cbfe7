-- The ends of a range, as sets of points.
use Rattle.std.specs.Prelude.{ℤ, ◌≤ℤ◌, ◌<ℤ◌, ◌↔◌, pos, ◌+ℤ◌, ◌-ℤ◌, int_le, Bool, true, if◌then◌else◌, Option, Some, None}
use Rattle.time_range.specs.Points.{IsNanos, instant, Has}
use Rattle.time_range.specs.declared.ranges.Span.{Span}
use Rattle.time_range.specs.declared.ends.End.{End}
use Rattle.time_range.specs.declared.ends.End.TheVariants.{Unbounded, Including, Excluding}

-- the point lies on the inner side of this low end
abbrev pub Above : End → ℤ → Type 0
Above Unbounded p = Unit {0}
Above (Including t) p = instant t ≤ℤ p
Above (Excluding t) p = instant t <ℤ p

-- the point lies on the inner side of this high end
abbrev pub Below : End → ℤ → Type 0
Below Unbounded p = Unit {0}
Below (Including t) p = p ≤ℤ instant t
Below (Excluding t) p = p <ℤ instant t

-- each point from the inner low end on is a point from the outer one on
abbrev pub ReachesDown : Option ℤ → Option ℤ → Type 0
ReachesDown None inner = Unit {0}
ReachesDown (Some a) None = ⊥
ReachesDown (Some a) (Some b) = a ≤ℤ b

-- each point up to the inner high end is a point up to the outer one
abbrev pub ReachesUp : Option ℤ → Option ℤ → Type 0
ReachesUp None inner = Unit {0}
ReachesUp (Some a) None = ⊥
ReachesUp (Some a) (Some b) = b ≤ℤ a

-- the range holds the points from the low end to the high end
abbrev pub Between : End → End → Option Span → Type 0
Between low high range = (p : ℤ) → Has range p ↔ (Above low p × Below high p)

-- the end's timestamp, if it has one, is within the limit
abbrev pub IsEndWithin : End → Type 0
IsEndWithin Unbounded = Unit {0}
IsEndWithin (Including t) = IsNanos t
IsEndWithin (Excluding t) = IsNanos t

-- the first point from a low end on, where there is one
abbrev pub low_point : End → Option ℤ
low_point Unbounded = None
low_point (Including t) = Some (instant t)
low_point (Excluding t) = Some (instant t +ℤ pos 1)

-- the last point up to a high end, where there is one
abbrev pub high_point : End → Option ℤ
high_point Unbounded = None
high_point (Including t) = Some (instant t)
high_point (Excluding t) = Some (instant t -ℤ pos 1)

-- some point lies from the low end to the high end
abbrev pub are_ordered : Option ℤ → Option ℤ → Bool
are_ordered (Some a) (Some b) = int_le a b
are_ordered low high = true

-- the range of the points from a low end to a high end: never where they are not in order
abbrev pub span_between : Option ℤ → Option ℤ → Option Span
span_between low high =
    if are_ordered low high then Some (record { low = low; high = high }) else None
