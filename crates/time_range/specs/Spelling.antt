-- The text of timestamps and ranges. A whole text is a function of its parts, which are plain data
-- of the code; here their numbers have no upper bound.
use Rattle.std.specs.Prelude.{◌≡◌, ℕ, suc, zero, ◌+◌, ◌*◌, ◌/◌, ◌%◌, ◌^◌, ◌<◌, ℤ, pos, neg_ℤ, ◌+ℤ◌, Bool, if◌then◌else◌, List, [], ◌++◌, map, Option, Some, None, IfSome, codes, unsigned_abs, int_lt}
use Rattle.std.specs.Int.{int_div_euclid}
use Rattle.std.specs.Int.Digits.{digits_of}
use Rattle.std.specs.Ordering.{int_eq}
use Rattle.time_range.specs.Points.{IsNanos, instant}
use Rattle.time_range.specs.Ends.{Between}
use Rattle.time_range.specs.declared.ranges.Span.{Span}
use Rattle.time_range.specs.declared.ends.End.{End}
use Rattle.time_range.specs.declared.ends.End.TheVariants.{Unbounded, Including, Excluding}
use Rattle.time_range.specs.declared.spelling.TsParts.{TsParts}
use Rattle.time_range.specs.declared.spelling.Bracket.{Bracket}
use Rattle.time_range.specs.declared.spelling.Bracket.TheVariants.{Square, Round}
use Rattle.time_range.specs.declared.spelling.Middle.{Middle}
use Rattle.time_range.specs.declared.spelling.Middle.TheVariants.{Empty, Single, Split}
use Rattle.time_range.specs.declared.spelling.RangeParts.{RangeParts}

-- a number in decimal: `0`, or digits of which the first is not 0
unfoldable pub numeral : ℕ → List ℕ
numeral zero = codes "0"
numeral (suc n) = map (λ d. 48 + d) (digits_of 10 (suc n))

-- ---- timestamps

-- the sign of a timestamp below zero
abbrev pub sign_text : Bool → List ℕ
sign_text negative = if negative then codes "-" else []

-- the text of a timestamp's parts
abbrev pub ts_text : TsParts → List ℕ
ts_text p = sign_text p.negative ++ (numeral p.seconds ++ (codes ":" ++ numeral p.nanos))

-- there are at most nine digits of nanoseconds
abbrev pub IsStamp : TsParts → Type 0
IsStamp p = p.nanos < 10 ^ 9

-- the nanoseconds that a timestamp's parts mean: the sign is that of the whole
abbrev pub ts_value : TsParts → ℤ
ts_value p =
    let size = pos (p.seconds * 1_000_000_000 + p.nanos) in if p.negative then neg_ℤ size else size

-- the text spells this many nanoseconds, whether or not they are within the limit
abbrev pub SpellsTs : List ℕ → ℤ → Type 0
SpellsTs text nanos = (p : TsParts) × IsStamp p × (text ≡ ts_text p) × (nanos ≡ ts_value p)

-- ---- ranges

-- the left bracket
abbrev pub left_text : Option Bracket → List ℕ
left_text None = []
left_text (Some Square) = codes "["
left_text (Some Round) = codes "("

-- the right bracket
abbrev pub right_text : Option Bracket → List ℕ
right_text None = []
right_text (Some Square) = codes "]"
right_text (Some Round) = codes ")"

-- a timestamp, where it is there
abbrev pub stamp_text : Option TsParts → List ℕ
stamp_text None = []
stamp_text (Some p) = ts_text p

-- what stands between the brackets
abbrev pub middle_text : Middle → List ℕ
middle_text Empty = []
middle_text (Single at) = ts_text at
middle_text (Split first second) = stamp_text first ++ (codes "_" ++ stamp_text second)

-- the text of a range's parts
abbrev pub range_text : RangeParts → List ℕ
range_text p = left_text p.left ++ (middle_text p.middle ++ right_text p.right)

-- each timestamp has at most nine digits of nanoseconds
abbrev pub HasStamps : Middle → Type 0
HasStamps Empty = Unit {0}
HasStamps (Single at) = IsStamp at
HasStamps (Split first second) = IfSome first IsStamp × IfSome second IsStamp

-- a timestamp that is there is within the limit
abbrev pub IsStampWithin : Option TsParts → Type 0
IsStampWithin stamp = IfSome stamp (λ p. IsNanos (ts_value p))

-- each timestamp is within the limit
abbrev pub IsWithin : Middle → Type 0
IsWithin Empty = Unit {0}
IsWithin (Single at) = IsNanos (ts_value at)
IsWithin (Split first second) = IsStampWithin first × IsStampWithin second

-- the end that a timestamp and the bracket beside it mean: a round bracket excludes the timestamp,
-- a square or missing one includes it, and one beside an open end is ignored
abbrev pub meant_end : Option Bracket → Option TsParts → End
meant_end bracket None = Unbounded
meant_end (Some Round) (Some p) = Excluding (ts_value p)
meant_end (Some Square) (Some p) = Including (ts_value p)
meant_end None (Some p) = Including (ts_value p)

-- what two brackets and what stands between them mean: nothing is never, one timestamp is both
-- ends, and where `_` stands a missing timestamp is an open end
abbrev pub MeansBetween : Option Bracket → Middle → Option Bracket → Option Span → Type 0
MeansBetween left Empty right range = range ≡ None
MeansBetween left (Single at) right range =
    Between (meant_end left (Some at)) (meant_end right (Some at)) range
MeansBetween left (Split first second) right range =
    Between (meant_end left first) (meant_end right second) range

-- the range that a text's parts mean
abbrev pub Means : RangeParts → Option Span → Type 0
Means p range = MeansBetween p.left p.middle p.right range

-- the text has these parts
abbrev pub SpellsParts : List ℕ → RangeParts → Type 0
SpellsParts text p = HasStamps p.middle × (text ≡ range_text p)

-- the text spells the range, each timestamp in it within the limit
abbrev pub SpellsRange : List ℕ → Option Span → Type 0
SpellsRange text range = (p : RangeParts) × SpellsParts text p × IsWithin p.middle × Means p range

-- ---- canonical texts

-- the parts that are printed for a number of nanoseconds
abbrev pub canonical_ts : ℤ → TsParts
canonical_ts nanos = record {
  negative = int_lt nanos (pos 0);
  seconds = unsigned_abs nanos / 1_000_000_000;
  nanos = unsigned_abs nanos % 1_000_000_000;
}

-- half of a point, rounded down
abbrev pub half : ℤ → ℤ
half point = int_div_euclid point (pos 2)

-- the end that a low point stands for: its instant, or the gap after one
abbrev pub low_end : Option ℤ → End
low_end None = Unbounded
low_end (Some p) = if int_eq (instant (half p)) p then Including (half p) else Excluding (half p)

-- the end that a high point stands for: its instant, or the gap before one
abbrev pub high_end : Option ℤ → End
high_end None = Unbounded
high_end (Some p) =
    if int_eq (instant (half p)) p then Including (half p) else Excluding (half p +ℤ pos 1)

-- the bracket that is printed beside an end: none beside an open one
abbrev pub bracket_of : End → Option Bracket
bracket_of Unbounded = None
bracket_of (Including t) = Some Square
bracket_of (Excluding t) = Some Round

-- the timestamp that is printed for an end
abbrev pub stamp_of : End → Option TsParts
stamp_of Unbounded = None
stamp_of (Including t) = Some (canonical_ts t)
stamp_of (Excluding t) = Some (canonical_ts t)

-- what is printed between the brackets: one timestamp for one instant, and else two around `_`
abbrev pub middle_of : End → End → Middle
middle_of (Including a) (Including b) =
    if int_eq a b
    then Single (canonical_ts a) else Split (Some (canonical_ts a)) (Some (canonical_ts b))
middle_of low high = Split (stamp_of low) (stamp_of high)

-- the parts that are printed for a range: `()` for never
abbrev pub canonical_range : Option Span → RangeParts
canonical_range None = record { left = Some Round; middle = Empty; right = Some Round }
canonical_range (Some s) = record {
  left = bracket_of (low_end s.low);
  middle = middle_of (low_end s.low) (high_end s.high);
  right = bracket_of (high_end s.high);
}
