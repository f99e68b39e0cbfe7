-- The value that a text spells, where it spells one within the limit: one for a timestamp's text
-- and one for a range's. They read byte by byte; a law says that they give exactly what `SpellsTs`
-- and `SpellsRange` relate to the text.
use Rattle.std.specs.Prelude.{◌≡◌, ℕ, ℤ, ◌↔◌, Bool, true, ◌&&◌, if◌then◌else◌, List, Option, Some, None}
use Rattle.std.specs.Option.{option_and_then}
use Rattle.time_range.specs.Points.{IsNanos, is_nanos, IsRange}
use Rattle.time_range.specs.Ends.{low_point, high_point, span_between}
use Rattle.time_range.specs.Spelling.{ts_value, SpellsTs, meant_end, SpellsRange}
use Rattle.time_range.specs.Within.Scanning.{run, ts_next, stamp_read, range_next, range_read}
use Rattle.time_range.specs.declared.ranges.Span.{Span}
use Rattle.time_range.specs.declared.spelling.TsParts.{TsParts}
use Rattle.time_range.specs.declared.spelling.Bracket.{Bracket}
use Rattle.time_range.specs.declared.spelling.Middle.{Middle}
use Rattle.time_range.specs.declared.spelling.Middle.TheVariants.{Empty, Single, Split}
use Rattle.time_range.specs.declared.spelling.RangeParts.{RangeParts}
use Rattle.time_range.specs.declared.scanning.TsScan.TheVariants.{Start}
use Rattle.time_range.specs.declared.scanning.RangeScan.TheVariants.{Left}

-- ---- timestamps

-- the parts of a text that is made like a timestamp's, with all of its seconds
abbrev pub ts_parts_in : List ℕ → Option TsParts
ts_parts_in text = option_and_then stamp_read (run (ts_next (λ n. n)) Start text)

-- the nanoseconds that a timestamp's parts mean, where they are within the limit
abbrev pub ts_meant : TsParts → Option ℤ
ts_meant p = if is_nanos (ts_value p) then Some (ts_value p) else None

-- the nanoseconds that a text spells, where it spells some within the limit
unfoldable pub ts_in : List ℕ → Option ℤ
ts_in text = option_and_then ts_meant (ts_parts_in text)

-- the function gives exactly what a text spells within the limit
abbrev pub TsInIsSpelled : Type 0
TsInIsSpelled =
    (text : List ℕ) (nanos : ℤ) → (ts_in text ≡ Some nanos) ↔ (SpellsTs text nanos × IsNanos nanos)

-- ---- ranges

-- the parts of a text that is made like a range's, with all seconds of its timestamps
abbrev pub range_parts_in : List ℕ → Option RangeParts
range_parts_in text = option_and_then range_read (run (range_next (λ n. n)) (Left None) text)

-- a timestamp that is there is within the limit
abbrev pub is_stamp_within : Option TsParts → Bool
is_stamp_within None = true
is_stamp_within (Some p) = is_nanos (ts_value p)

-- each timestamp is within the limit
abbrev pub is_within : Middle → Bool
is_within Empty = true
is_within (Single at) = is_nanos (ts_value at)
is_within (Split first second) = is_stamp_within first && is_stamp_within second

-- the range from one timestamp to another, each with the bracket beside it
abbrev pub range_between : Option Bracket → Option TsParts → Option TsParts → Option Bracket
    → Option Span
range_between left first second right =
    span_between (low_point (meant_end left first)) (high_point (meant_end right second))

-- the range that two brackets and what stands between them mean
abbrev pub range_of_middle : Option Bracket → Middle → Option Bracket → Option Span
range_of_middle left Empty right = None
range_of_middle left (Single at) right = range_between left (Some at) (Some at) right
range_of_middle left (Split first second) right = range_between left first second right

-- the range that a text's parts mean, where each timestamp in them is within the limit
abbrev pub range_meant : RangeParts → Option (Option Span)
range_meant p = if is_within p.middle then Some (range_of_middle p.left p.middle p.right) else None

-- the range that a text spells, where it spells one with each timestamp within the limit
unfoldable pub range_in : List ℕ → Option (Option Span)
range_in text = option_and_then range_meant (range_parts_in text)

-- the function gives exactly the range that a text spells within the limit
abbrev pub RangeInIsSpelled : Type 0
RangeInIsSpelled =
    (text : List ℕ) (range : Option Span)
    → (range_in text ≡ Some range) ↔ (SpellsRange text range × IsRange range)
