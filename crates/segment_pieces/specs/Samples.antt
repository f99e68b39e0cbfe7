-- Samples of a segment: at which points they stand, and which of them lie before a range or in it.
-- Our own profile of the Time-addressable Media Store.
use Rattle.std.specs.Prelude.{◌*◌, ◌^◌, ◌<◌, ◌↔◌, ℕ, ℤ, pos, ◌+ℤ◌, ◌<ℤ◌, Bool, false, ◌&&◌, Option, Some, None, IfSome, filter, length, unwrap_or, option_map}
use Rattle.std.specs.Int.{div_ceil}
use Rattle.time_range.specs.Points.{instant, low_instant, low_of}
use Rattle.time_range.specs.declared.ranges.Span.{Span}
use Rattle.media_rows.specs.Lists.{numbers_below}
use Rattle.media_rows.specs.Ranges.{reaches_down, reaches_up}
use Rattle.segment_pieces.specs.declared.rate.Rate.{Rate}

-- ---- where they stand

-- the instant of the first point of a range, in nanoseconds; a range of a good segment has one
abbrev pub first_instant : Option Span → ℤ
first_instant range = unwrap_or (option_map low_instant (low_of range)) (pos 0)

-- how long after the first sample a sample stands, in nanoseconds, rounded up
abbrev pub sample_nanos : Rate → ℕ → ℕ
sample_nanos rate k = div_ceil (k * rate.denominator * 10 ^ 9) rate.numerator

-- the point at which a sample of a segment of this range stands
abbrev pub sample_point : Rate → Option Span → ℕ → ℤ
sample_point rate range k = instant (first_instant range +ℤ pos (sample_nanos rate k))

-- ---- which lie where

-- whether a range contains a point
abbrev pub has_point : Option Span → ℤ → Bool
has_point None point = false
has_point (Some s) point = reaches_down s.low (Some point) && reaches_up s.high (Some point)

-- just so many samples, from the first one on, stand before the part of a segment of this range
abbrev pub StandBefore : Rate → Option Span → Option Span → ℕ → Type 0
StandBefore rate range part count =
    (k : ℕ) → (k < count) ↔ IfSome (low_of part) (λ low. sample_point rate range k <ℤ low)

-- how many of the first samples of a segment of this range stand within a part of it
abbrev pub count_within : Rate → Option Span → Option Span → ℕ → ℕ
count_within rate range part count =
    length (filter (λ k. has_point part (sample_point rate range k)) (numbers_below count))
