-- Two pieces by hand. Our own examples.
use Rattle.std.specs.Prelude.{◌*◌, ◌^◌, ℕ, ℤ, pos, neg_ℤ, [], Option, Some, None}
use Rattle.time_range.specs.Ends.{high_point, low_point, span_between}
use Rattle.time_range.specs.declared.ends.End.TheVariants.{Excluding, Including}
use Rattle.time_range.specs.declared.ranges.Span.{Span}
use Rattle.media_rows.specs.declared.segment.Segment.{Segment}
use Rattle.segment_pieces.specs.declared.clip.Clip.{Clip}
use Rattle.segment_pieces.specs.declared.rate.Rate.{Rate}
use Rattle.segment_pieces.specs.Pieces.{IsPiece, shift_to}
use Rattle.segment_pieces.specs.Rates.{rate_with}

-- so many seconds, in nanoseconds
abbrev pub seconds : ℕ → ℤ
seconds n = pos (n * 10 ^ 9)

-- from one second on, and before another
abbrev pub from_to : ℕ → ℕ → Option Span
from_to low high =
    span_between (low_point (Including (seconds low))) (high_point (Excluding (seconds high)))

-- a segment of an object without a name
abbrev pub segment_with : Option Span → ℤ → ℕ → ℕ → Segment
segment_with range ts_offset offset count = record {
  object = [];
  range = range;
  ts_offset = ts_offset;
  last_duration = None;
  sample_offset = offset;
  sample_count = Some count;
  key_frames = None;
}

-- ten seconds from zero on, with so many samples
abbrev pub ten_seconds : ℕ → Segment
ten_seconds count = segment_with (from_to 0 10) (pos 0) 0 count

-- a clip that is moved to zero
abbrev pub clip_to_zero : Option Span → Option Rate → Clip
clip_to_zero range rate = record { range = range; shift = shift_to (pos 0) range; rate = rate }

-- At 25 frames a second two seconds have 50, and 50 stand before the second 2. At 30,000 frames in
-- 1,001 seconds 30 stand before the second 1, and 30 from there on before the second 2.
pub record ArePiecesAsWorked : Type 0 where
  pub frames : IsPiece (clip_to_zero (from_to 2 4) (rate_with 25 1)) (ten_seconds 250)
      (segment_with (from_to 0 2) (neg_ℤ (seconds 2)) 50 50)
  pub broken_rate : IsPiece (clip_to_zero (from_to 1 2) (rate_with 30000 1001)) (ten_seconds 299)
      (segment_with (from_to 0 1) (neg_ℤ (seconds 1)) 30 30)
