-- Durations of ranges within the limit.
use Rattle.std.proofs.Common.{◌≡◌, ◌≤◌, ℤ, pos, negsuc, ◌+ℤ◌, ◌-ℤ◌, unsigned_abs, Option, Some, None, IfSome, refl, arith}
use Rattle.std.specs.Int.{int_div_euclid}
use Rattle.std.proofs.lemmas.Int.{ints}
use Rattle.time_range.specs.Points.{IsHigh, IsLow, IsNanos, IsRange, high_instant, high_of, low_instant, low_of}
use Rattle.time_range.specs.declared.ranges.Span.{Span}
use Rattle.hls_manifest.specs.Entries.{nanos_between}
use Rattle.hls_manifest.specs.Playlists.{longest}

-- the instant of a first point lies within the limit
low_within : (low : ℤ) → IsLow low → IsNanos (low_instant low)
low_within (pos n) is = record { least = omega (arith, ints); most = omega (arith, ints) }
low_within (negsuc n) is = record { least = omega (arith, ints); most = omega (arith, ints) }

-- so does half of the point behind a last one
half_within : (high next : ℤ) → IsHigh high → next ≡ high +ℤ pos 1
    → IsNanos (int_div_euclid next (pos 2))
half_within high (pos n) is e = record { least = omega (arith, ints); most = omega (arith, ints) }
half_within high (negsuc n) is e = record {
  least = omega (arith, ints);
  most = omega (arith, ints);
}

-- which is the last one's instant
high_within : (high : ℤ) → IsHigh high → IsNanos (high_instant high)
high_within high is = half_within high (high +ℤ pos 1) is refl

-- two instants within the limit are no more than the longest duration apart
between_instants : (low high : ℤ) → IsNanos low → IsNanos high
    → unsigned_abs (high -ℤ low) ≤ longest
between_instants low high first last = grind (arith, ints)

-- so are two ends
between_ends : (low high : Option ℤ) → IfSome low IsLow → IfSome high IsHigh
    → nanos_between low high ≤ longest
between_ends None high first last = omega arith
between_ends (Some low) None first last = omega arith
between_ends (Some low) (Some high) first last =
    between_instants (low_instant low) (high_instant high)
    (low_within low first) (high_within high last)

-- no range lasts longer
pub duration_within : (range : Option Span) → IsRange range
    → nanos_between (low_of range) (high_of range) ≤ longest
duration_within None is = omega arith
duration_within (Some s) is = between_ends s.low s.high is.low is.high
