use Rattle.time_range.proofs.SpelledValues.{ts_in_is, range_in_is}
use Rattle.time_range.proofs.reading.values_are_spelled.Goals as goal

pub returns-clause-ts : goal.returns-clause-ts
returns-clause-ts c = ts_in_is

pub returns-clause-range : goal.returns-clause-range
returns-clause-range c = range_in_is
