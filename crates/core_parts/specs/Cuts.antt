-- What a cut of segments comes to. Our own rules.
use Rattle.std.specs.Prelude.{ℕ, ◌==◌, nat_le, Option, Result, Ok, Err, if◌then◌else◌, length}
use Rattle.time_range.specs.declared.ranges.Span.{Span}
use Rattle.media_rows.specs.declared.change.Change.TheVariants as changes
use Rattle.media_rows.specs.Changes.{after}
use Rattle.media_rows.specs.Library.{Library}
use Rattle.media_rows.specs.Requests.{step_size}
use Rattle.media_rows.specs.Segments.{covered}
use Rattle.core_parts.specs.declared.cuts.Cut.{Cut}
use Rattle.core_parts.specs.declared.cuts.Cut.TheVariants.{Nothing, Gone, Many}
use Rattle.core_parts.specs.Parts.{only_library, within_serials}

-- what a cut comes to: none is covered, so many as go at once, with the library without them, or
-- more
pub data CutEnd : Type 0 where
  NoneCut : CutEnd
  AllCut : (next : Option Library) → CutEnd
  TooMany : CutEnd

-- a cut, with the library alone
abbrev pub cut_end : Cut → CutEnd
cut_end Nothing = NoneCut
cut_end (Gone next) = AllCut (only_library next)
cut_end Many = TooMany

-- the same, or what went wrong
abbrev pub given_cut : {E : Type 0} → Result Cut E → Result CutEnd E
given_cut (Ok cut) = Ok (cut_end cut)
given_cut (Err fault) = Err fault

-- a cut of so many segments, where this is the library without them
abbrev pub cut_by : ℕ → Option Library → CutEnd
cut_by count next =
    if count == 0 then NoneCut else if nat_le count step_size then AllCut next else TooMany

-- a cut of the segments of a flow that a range covers
abbrev pub cut_of : Library → ℕ → Option Span → ℕ → CutEnd
cut_of library flow range moment =
    cut_by (length (covered library.segments flow range))
    (within_serials (after (changes.CutSegments moment flow range) library))
