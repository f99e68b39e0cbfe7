use Rattle.std.proofs.Common.{sym, ◌∙◌, Err}
use Rattle.time_range.specs.declared.fault.RangeFault.TheVariants.{Spelling}
use Rattle.time_range.proofs.Readings.{range_stops, range_unfinished, range_reading, range_ok, range_only, range_too_large}
use Rattle.time_range.proofs.SpelledValues.{range_answer, range_value}
use Rattle.time_range.proofs.reading.read_range.Goals as goal

pub returns-in-Err-clause-spelling : goal.returns-in-Err-clause-spelling
returns-in-Err-clause-spelling c = range_stops _ _ c.in-Err.ensures.err

pub returns-in_default-clause-spelling : goal.returns-in_default-clause-spelling
returns-in_default-clause-spelling c = range_unfinished _ _ c.in-Ok.ensures.ok (sym c.parts.ensures ∙ c.in_default.is)

pub returns-clause-ok : goal.returns-clause-ok
returns-clause-ok c =
    let reads = range_reading _ _ _ c.in-Ok.ensures.ok (sym c.parts.ensures ∙ c.in-Some.is) in
    rw c.ok_or.ensures.value (range_ok _ _ _ reads c.range.ensures.within c.range.ensures.meant)

pub returns-clause-only : goal.returns-clause-only
returns-clause-only c = range_only _ _ (returns-clause-ok c)

pub returns-clause-too_large : goal.returns-clause-too_large
returns-clause-too_large c =
    let reads = range_reading _ _ _ c.in-Ok.ensures.ok (sym c.parts.ensures ∙ c.in-Some.is) in
    rw c.ok_or.ensures.value (range_too_large _ _ _ reads c.range.ensures.within)

-- the value follows from the other clauses
pub returns-in-Err-clause-value : goal.returns-in-Err-clause-value
returns-in-Err-clause-value c = range_answer _ (Err (Spelling _)) tt tt (returns-in-Err-clause-spelling c) tt

pub returns-in_default-clause-value : goal.returns-in_default-clause-value
returns-in_default-clause-value c = range_answer _ (Err (Spelling _)) tt tt (returns-in_default-clause-spelling c) tt

pub returns-clause-value : goal.returns-clause-value
returns-clause-value c =
    let reads = range_reading _ _ _ c.in-Ok.ensures.ok (sym c.parts.ensures ∙ c.in-Some.is) in
    rw c.ok_or.ensures.value (range_value _ _ _ reads c.range.ensures.within c.range.ensures.meant c.range.ensures.range)
