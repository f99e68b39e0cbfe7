-- Points of the time line, and timeranges as sets of points. A point is a whole number of half
-- nanoseconds: the instant n is the point 2 n, and the open gap after it is the point 2 n + 1.
use Rattle.std.specs.Prelude.{ℤ, pos, neg_ℤ, ◌+ℤ◌, ◌-ℤ◌, ◌≤ℤ◌, int_le, Bool, ◌&&◌, Option, Some, None, IfSome, MatchOption}
use Rattle.std.specs.Int.{int_div_euclid}
use Rattle.time_range.specs.declared.ranges.Span.{Span}

-- the largest magnitude of a timestamp, in nanoseconds
abbrev pub limit : ℤ
limit = pos 281_474_976_710_655_999_999_999

-- this many nanoseconds are a timestamp
pub record IsNanos (nanos : ℤ) : Type 0 where
  pub least : neg_ℤ limit ≤ℤ nanos
  pub most : nanos ≤ℤ limit

-- the same as a test
abbrev pub is_nanos : ℤ → Bool
is_nanos nanos = int_le (neg_ℤ limit) nanos && int_le nanos limit

-- the point of the instant that is this many nanoseconds from zero
abbrev pub instant : ℤ → ℤ
instant nanos = nanos +ℤ nanos

-- the instant of a first point, in nanoseconds: half of the point, rounded down
abbrev pub low_instant : ℤ → ℤ
low_instant point = int_div_euclid point (pos 2)

-- the instant of a last point, in nanoseconds: half of the point, rounded up
abbrev pub high_instant : ℤ → ℤ
high_instant point = int_div_euclid (point +ℤ pos 1) (pos 2)

-- a point at which a range may begin: a timestamp's instant, or the gap after it
pub record IsLow (p : ℤ) : Type 0 where
  pub least : instant (neg_ℤ limit) ≤ℤ p
  pub most : p ≤ℤ (instant limit +ℤ pos 1)

-- a point at which a range may end: a timestamp's instant, or the gap before it
pub record IsHigh (p : ℤ) : Type 0 where
  pub least : (instant (neg_ℤ limit) -ℤ pos 1) ≤ℤ p
  pub most : p ≤ℤ instant limit

-- a point at which a range may begin or end
pub record IsEnd (p : ℤ) : Type 0 where
  pub least : (instant (neg_ℤ limit) -ℤ pos 1) ≤ℤ p
  pub most : p ≤ℤ (instant limit +ℤ pos 1)

-- the point is not before the low end, where there is one
abbrev pub From : Option ℤ → ℤ → Type 0
From low p = IfSome low (λ a. a ≤ℤ p)

-- the point is not past the high end, where there is one
abbrev pub UpTo : Option ℤ → ℤ → Type 0
UpTo high p = IfSome high (λ b. p ≤ℤ b)

-- the ends of a range: in order, and each within the limit
pub record IsSpan (s : Span) : Type 0 where
  pub ordered : IfSome s.low (λ a. IfSome s.high (λ b. a ≤ℤ b))
  pub low : IfSome s.low IsLow
  pub high : IfSome s.high IsHigh

-- the range contains the point; `None` is never
abbrev pub Has : Option Span → ℤ → Type 0
Has range p = MatchOption range ⊥ (λ s. From s.low p × UpTo s.high p)

-- the range of all points
abbrev pub eternity : Option Span
eternity = Some (record { low = None; high = None })

-- what is true of each range: its ends are in order and within the limit
abbrev pub IsRange : Option Span → Type 0
IsRange range = MatchOption range (Unit {0}) IsSpan

-- two ranges overlap: some point is in both
abbrev pub Overlap : Option Span → Option Span → Type 0
Overlap a b = (p : ℤ) × Has a p × Has b p

-- one range covers another: each point of the other is in it
abbrev pub Covers : Option Span → Option Span → Type 0
Covers outer inner = (p : ℤ) → Has inner p → Has outer p

-- the first point of a range
abbrev pub IsFirst : Option Span → ℤ → Type 0
IsFirst range point = Has range point × ((p : ℤ) → Has range p → point ≤ℤ p)

-- the last point of a range
abbrev pub IsLast : Option Span → ℤ → Type 0
IsLast range point = Has range point × ((p : ℤ) → Has range p → p ≤ℤ point)

-- all points of a range lie between two points, as the points of never do
abbrev pub IsBounded : Option Span → Type 0
IsBounded range = (low : ℤ) × (high : ℤ) × ((p : ℤ) → Has range p → (low ≤ℤ p) × (p ≤ℤ high))

-- the low end of a range, where it has one
abbrev pub low_of : Option Span → Option ℤ
low_of None = None
low_of (Some s) = s.low

-- the high end of a range, where it has one
abbrev pub high_of : Option Span → Option ℤ
high_of None = None
high_of (Some s) = s.high

-- both ends of a range are within the limit once they are moved by this many nanoseconds
abbrev pub StaysWithin : Option Span → ℤ → Type 0
StaysWithin range by =
    IfSome (low_of range) (λ a. IsLow (a +ℤ instant by))
    × IfSome (high_of range) (λ b. IsHigh (b +ℤ instant by))
