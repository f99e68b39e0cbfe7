use Rattle.std.proofs.Common.{sym, ◌∙◌, Err}
use Rattle.time_range.specs.declared.fault.RangeFault.TheVariants.{Spelling}
use Rattle.time_range.proofs.Readings.{ts_stops, ts_unfinished, ts_reading, ts_ok, ts_only, ts_too_large}
use Rattle.time_range.proofs.SpelledValues.{ts_answer, ts_value_is}
use Rattle.time_range.proofs.reading.read_ts.Goals as goal

pub returns-in-Err-clause-spelling : goal.returns-in-Err-clause-spelling
returns-in-Err-clause-spelling c = ts_stops _ _ c.in-Err.ensures.err

pub returns-in_default-clause-spelling : goal.returns-in_default-clause-spelling
returns-in_default-clause-spelling c = ts_unfinished _ _ c.in-Ok.ensures.ok (sym c.parts.ensures ∙ c.in_default.is)

pub returns-clause-ok : goal.returns-clause-ok
returns-clause-ok c =
    let reads = ts_reading _ _ _ c.in-Ok.ensures.ok (sym c.parts.ensures ∙ c.in-Some.is) in
    rw c.ok_or.ensures.value (ts_ok _ _ _ reads c.ts.ensures.within c.ts.ensures.value)

pub returns-clause-only : goal.returns-clause-only
returns-clause-only c = ts_only _ _ (returns-clause-ok c)

pub returns-clause-too_large : goal.returns-clause-too_large
returns-clause-too_large c =
    let reads = ts_reading _ _ _ c.in-Ok.ensures.ok (sym c.parts.ensures ∙ c.in-Some.is) in
    rw c.ok_or.ensures.value (ts_too_large _ _ _ reads c.ts.ensures.within)

-- the value follows from the other clauses
pub returns-in-Err-clause-value : goal.returns-in-Err-clause-value
returns-in-Err-clause-value c = ts_answer _ (Err (Spelling _)) tt tt (returns-in-Err-clause-spelling c) tt

pub returns-in_default-clause-value : goal.returns-in_default-clause-value
returns-in_default-clause-value c = ts_answer _ (Err (Spelling _)) tt tt (returns-in_default-clause-spelling c) tt

pub returns-clause-value : goal.returns-clause-value
returns-clause-value c =
    let reads = ts_reading _ _ _ c.in-Ok.ensures.ok (sym c.parts.ensures ∙ c.in-Some.is) in
    rw c.ok_or.ensures.value (ts_value_is _ _ _ reads c.ts.ensures.within c.ts.ensures.value)
