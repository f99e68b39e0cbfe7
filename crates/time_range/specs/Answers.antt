-- What the answers of the readers mean.
use Rattle.std.specs.Prelude.{◌≡◌, ℕ, ℤ, ◌↔◌, List, Option, Result, Ok, Err}
use Rattle.time_range.specs.Points.{IsNanos, Has}
use Rattle.time_range.specs.Spelling.{ts_text, IsStamp, SpellsTs, range_text, HasStamps, SpellsParts, IsWithin}
use Rattle.time_range.specs.declared.ranges.Span.{Span}
use Rattle.time_range.specs.declared.spelling.TsParts.{TsParts}
use Rattle.time_range.specs.declared.spelling.RangeParts.{RangeParts}
use Rattle.time_range.specs.declared.fault.RangeFault.{RangeFault}
use Rattle.time_range.specs.declared.fault.RangeFault.TheVariants.{Spelling, TooLarge}

-- P of the place, where the answer is that the text is no spelling
abbrev pub IfSpelling : {T : Type 0} → Result T RangeFault → (ℕ → Type 0) → Type 0
IfSpelling (Ok x) P = Unit {0}
IfSpelling (Err (Spelling at)) P = P at
IfSpelling (Err TooLarge) P = Unit {0}

-- P, where the answer is that a number passes the limit
abbrev pub OnTooLarge : {T : Type 0} → Result T RangeFault → Type 0 → Type 0
OnTooLarge (Ok x) P = Unit {0}
OnTooLarge (Err (Spelling at)) P = Unit {0}
OnTooLarge (Err TooLarge) P = P

-- the text spells some number of nanoseconds
abbrev pub IsTsText : List ℕ → Type 0
IsTsText text = (p : TsParts) × IsStamp p × (text ≡ ts_text p)

-- the text spells a number of nanoseconds past the limit
abbrev pub SpellsTsPast : List ℕ → Type 0
SpellsTsPast text = (nanos : ℤ) × SpellsTs text nanos × (IsNanos nanos → ⊥)

-- the text is made like a range's
abbrev pub IsRangeText : List ℕ → Type 0
IsRangeText text = (p : RangeParts) × HasStamps p.middle × (text ≡ range_text p)

-- the text is made like a range's, with a timestamp past the limit
abbrev pub SpellsRangePast : List ℕ → Type 0
SpellsRangePast text = (p : RangeParts) × SpellsParts text p × (IsWithin p.middle → ⊥)

-- two ranges have the same points
abbrev pub HasSamePoints : Option Span → Option Span → Type 0
HasSamePoints a b = (p : ℤ) → Has a p ↔ Has b p
