-- The canonical texts, and what a print that fails leaves.
use Rattle.std.specs.Prelude.{◌≡◌, ℕ, ℤ, List, Option, length, take}
use Rattle.time_range.specs.Spelling.{ts_text, canonical_ts, range_text, canonical_range}
use Rattle.time_range.specs.declared.ranges.Span.{Span}

-- the one text that is printed for a number of nanoseconds
abbrev pub canonical_ts_text : ℤ → List ℕ
canonical_ts_text nanos = ts_text (canonical_ts nanos)

-- the one text that is printed for a range
abbrev pub canonical_range_text : Option Span → List ℕ
canonical_range_text range = range_text (canonical_range range)

-- the new bytes begin with the old ones
abbrev pub Extends : List ℕ → List ℕ → Type 0
Extends old new = take (length old) new ≡ old
