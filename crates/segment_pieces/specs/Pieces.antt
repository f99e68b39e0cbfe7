-- Pieces: what a clip takes of a segment. A clip is a range of a flow, which is moved along the
-- time line. Our own profile of the Time-addressable Media Store.
use Rattle.std.specs.Prelude.{◌≡◌, ◌≤◌, ◌+◌, ◌^◌, ◌⊎◌, ℕ, ℤ, ◌+ℤ◌, ◌-ℤ◌, Bool, true, false, not, Option, Some, None, option_map, if◌then◌else◌}
use Rattle.std.specs.Int.{int_max, int_min}
use Rattle.time_range.specs.Ends.{span_between}
use Rattle.time_range.specs.Points.{IsNanos, high_of, instant}
use Rattle.time_range.specs.declared.ranges.Span.{Span}
use Rattle.media_rows.specs.declared.segment.Segment.{Segment}
use Rattle.media_rows.specs.Ranges.{covers, reaches_up}
use Rattle.segment_pieces.specs.declared.clip.Clip.{Clip}
use Rattle.segment_pieces.specs.declared.rate.Rate.{Rate}
use Rattle.segment_pieces.specs.Samples.{StandBefore, count_within, first_instant}

-- ---- ranges

-- the later of two low ends, where an open end bounds nothing
abbrev pub later : Option ℤ → Option ℤ → Option ℤ
later None b = b
later (Some a) None = Some a
later (Some a) (Some b) = Some (int_max a b)

-- the earlier of two high ends, where an open end bounds nothing
abbrev pub earlier : Option ℤ → Option ℤ → Option ℤ
earlier None b = b
earlier (Some a) None = Some a
earlier (Some a) (Some b) = Some (int_min a b)

-- the points that are in both ranges
abbrev pub meet : Option Span → Option Span → Option Span
meet None b = None
meet (Some a) None = None
meet (Some a) (Some b) = span_between (later a.low b.low) (earlier a.high b.high)

-- a range moved by so many nanoseconds
abbrev pub moved : ℤ → Option Span → Option Span
moved by range = option_map (λ s. record {
  low = option_map (λ p. p +ℤ instant by) s.low;
  high = option_map (λ p. p +ℤ instant by) s.high;
}) range

-- by how many nanoseconds a range is moved, so that its first instant comes to stand at another
abbrev pub shift_to : ℤ → Option Span → ℤ
shift_to at range = at -ℤ first_instant range

-- ---- pieces

-- what a clip has of a segment
abbrev pub part_of : Clip → Segment → Option Span
part_of clip segment = meet segment.range clip.range

-- whether a clip has a part of a segment only
abbrev pub is_cut : Clip → Segment → Bool
is_cut clip segment = not (covers clip.range segment.range)

-- the duration of the last sample, where the part goes up to the segment's high end
abbrev pub kept_last : Option Span → Segment → Option ℤ
kept_last part segment =
    if reaches_up (high_of part) (high_of segment.range) then segment.last_duration else None

-- a piece that has a part of a segment only: its samples are counted anew
pub record IsCutOut (rate : Rate) (part : Option Span) (segment piece : Segment) : Type 0 where
  pub before : ℕ
  pub stand_before : StandBefore rate segment.range part before
  pub offset : piece.sample_offset ≡ segment.sample_offset + before
  pub count : piece.sample_count
      ≡ option_map (count_within rate segment.range part) segment.sample_count
  pub key_frames : piece.key_frames ≡ None
  pub last : piece.last_duration ≡ kept_last part segment

-- a piece that has all of a segment: what is said of its samples stays
pub record IsWholeOf (segment piece : Segment) : Type 0 where
  pub offset : piece.sample_offset ≡ segment.sample_offset
  pub count : piece.sample_count ≡ segment.sample_count
  pub key_frames : piece.key_frames ≡ segment.key_frames
  pub last : piece.last_duration ≡ segment.last_duration

-- the samples of a cut piece, which needs a rate
abbrev pub HasSamples : Option Rate → Option Span → Segment → Segment → Type 0
HasSamples None part segment piece = ⊥
HasSamples (Some rate) part segment piece = IsCutOut rate part segment piece

-- A piece is what a clip takes of a segment: the same object, the part of the range that the clip
-- has, moved, and the offset raised by as much.
pub record IsPiece (clip : Clip) (segment piece : Segment) : Type 0 where
  pub object : piece.object ≡ segment.object
  pub range : piece.range ≡ moved clip.shift (part_of clip segment)
  pub ts_offset : piece.ts_offset ≡ segment.ts_offset +ℤ clip.shift
  pub whole : is_cut clip segment ≡ false → IsWholeOf segment piece
  pub cut : is_cut clip segment ≡ true → HasSamples clip.rate (part_of clip segment) segment piece

-- ---- why there is none

-- the number of the first sample of a cut piece is past those of 64 bits
pub record NumberPast (rate : Rate) (part : Option Span) (segment : Segment) : Type 0 where
  pub before : ℕ
  pub stand_before : StandBefore rate segment.range part before
  pub past : 2 ^ 64 ≤ segment.sample_offset + before

-- the same, where there is a rate
abbrev pub NumberPastIf : Option Rate → Option Span → Segment → Type 0
NumberPastIf None part segment = ⊥
NumberPastIf (Some rate) part segment = NumberPast rate part segment

-- the piece is cut, and there is no rate to cut it by
pub record NeedsRate (clip : Clip) (segment : Segment) : Type 0 where
  pub cut : is_cut clip segment ≡ true
  pub none : clip.rate ≡ None

-- the piece's offset is no timestamp, or the number of its first sample is past those of 64 bits
abbrev pub GoesTooFar : Clip → Segment → Type 0
GoesTooFar clip segment =
    (¬ (IsNanos (segment.ts_offset +ℤ clip.shift)))
    ⊎ ((is_cut clip segment ≡ true) × NumberPastIf clip.rate (part_of clip segment) segment)

-- there is no piece since it would go too far, and not for want of a rate, which comes first
abbrev pub IsTooFar : Clip → Segment → Type 0
IsTooFar clip segment = GoesTooFar clip segment × (¬ (NeedsRate clip segment))
