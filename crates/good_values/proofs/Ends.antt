-- Ranges with both ends, and the one with none.
use Rattle.std.proofs.Common.{◌≡◌, ℤ, Option, Some, None, is_some, is_none, refl}
use Rattle.std.specs.Prelude.{◌&&◌}
use Rattle.time_range.specs.declared.ranges.Span.{Span}
use Rattle.time_range.specs.Points.{eternity, high_of, low_of}
use Rattle.media_rows.specs.Ranges.{covers, has_both_ends, is_eternity, reaches_down, reaches_up}

pub both_ends : (range : Option Span) → (is_some (low_of range) && is_some (high_of range)) ≡ has_both_ends range
both_ends None = refl
both_ends (Some s) = refl

reach : (low high : Option ℤ) → (reaches_down low None && reaches_up high None) ≡ (is_none low && is_none high)
reach None None = refl
reach None (Some b) = refl
reach (Some a) None = refl
reach (Some a) (Some b) = refl

pub all_points : (range : Option Span) → covers range eternity ≡ is_eternity range
all_points None = refl
all_points (Some s) = reach s.low s.high
