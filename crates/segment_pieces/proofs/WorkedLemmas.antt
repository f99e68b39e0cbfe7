-- Two pieces by hand.
use Rattle.std.proofs.Common.{◌≡◌, ◌↔◌, ◌<◌, ◌+◌, ◌*◌, ◌/◌, ℕ, ℤ, pos, ◌-ℤ◌, ◌≤ℤ◌, Option, Some, IfSome, refl, sym, ap}
use Rattle.std.specs.Int.{int_div_euclid}
use Rattle.std.proofs.lemmas.Bool.{false≢true}
use Rattle.time_range.specs.Points.{high_of, low_of}
use Rattle.time_range.specs.declared.ranges.Span.{Span}
use Rattle.segment_pieces.specs.declared.rate.Rate.{Rate}
use Rattle.segment_pieces.specs.Samples.{StandBefore, first_instant, sample_nanos, sample_point}
use Rattle.segment_pieces.specs.Worked.{ArePiecesAsWorked, from_to}
use Rattle.segment_pieces.proofs.CountLemmas.{counted_nanos}
use Rattle.segment_pieces.proofs.SampleLemmas.{counted_to_point, counted_within, stand_before_from}

-- so many samples stand up to a point the half of which lies so far behind the first one
stand_to : (rate : Rate) (range : Option Span) (point : ℤ) (h k : ℕ)
    → pos h ≡ int_div_euclid point (pos 2) -ℤ first_instant range
    → (k < rate.numerator * h / (rate.denominator * 1000000000) + 1)
    ↔ (sample_point rate range k ≤ℤ point)
stand_to rate range point h k half =
    counted_to_point (first_instant range) point (pos h) (λ j. pos (sample_nanos rate j)) _ half
    (λ j. counted_nanos rate rate.numerator rate.denominator h j (pos h) refl refl refl) k

-- those before a part, by the half of the point before it
before_by : (rate : Rate) (range part : Option Span) (low : ℤ) (h : ℕ) → low_of part ≡ Some low
    → pos h ≡ int_div_euclid (low -ℤ pos 1) (pos 2) -ℤ first_instant range
    → StandBefore rate range part (rate.numerator * h / (rate.denominator * 1000000000) + 1)
before_by rate range part low h begins half =
    stand_before_from rate range part low _ begins
    (λ k. stand_to rate range (low -ℤ pos 1) h k half)

-- those up to the end of a part, by the half of its last point
to_end_by : (rate : Rate) (range part : Option Span) (high : ℤ) (h : ℕ) → high_of part ≡ Some high
    → pos h ≡ int_div_euclid high (pos 2) -ℤ first_instant range
    → (k : ℕ) → (k < rate.numerator * h / (rate.denominator * 1000000000) + 1)
    ↔ IfSome (high_of part) (λ b. sample_point rate range k ≤ℤ b)
to_end_by rate range part high h ends half k = rw ends (stand_to rate range high h k half)

-- 25 frames a second
abbrev whole_rate : Rate
whole_rate = record { numerator = 25; denominator = 1; in_range = refl }

-- 30,000 frames in 1,001 seconds
abbrev broken_rate : Rate
broken_rate = record { numerator = 30000; denominator = 1001; in_range = refl }

-- counted by the closed form
pub pieces_are_as_worked : ArePiecesAsWorked
pieces_are_as_worked = record {
  frames = record {
    object = refl;
    range = refl;
    ts_offset = refl;
    whole = λ e. absurd (false≢true (sym e));
    cut = λ e. record {
      before = 50;
      stand_before = before_by whole_rate (from_to 0 10) (from_to 2 4) (pos 4000000000) 1999999999
          refl refl;
      offset = refl;
      count = ap Some (sym (counted_within whole_rate (from_to 0 10) (from_to 2 4) 50 100 250 refl
          (before_by whole_rate (from_to 0 10) (from_to 2 4) (pos 4000000000) 1999999999 refl refl)
          (to_end_by whole_rate (from_to 0 10) (from_to 2 4) (pos 7999999999) 3999999999 refl
          refl)));
      key_frames = refl;
      last = refl;
    };
  };
  broken_rate = record {
    object = refl;
    range = refl;
    ts_offset = refl;
    whole = λ e. absurd (false≢true (sym e));
    cut = λ e. record {
      before = 30;
      stand_before = before_by broken_rate (from_to 0 10) (from_to 1 2) (pos 2000000000) 999999999
          refl refl;
      offset = refl;
      count = ap Some (sym (counted_within broken_rate (from_to 0 10) (from_to 1 2) 30 60 299 refl
          (before_by broken_rate (from_to 0 10) (from_to 1 2) (pos 2000000000) 999999999 refl refl)
          (to_end_by broken_rate (from_to 0 10) (from_to 1 2) (pos 3999999999) 1999999999 refl
          refl)));
      key_frames = refl;
      last = refl;
    };
  };
}
