use Rattle.std.proofs.Common.{◌∙◌, ap, not}
use Rattle.time_range.proofs.SpanPoints.{some_point}
use Rattle.time_range.proofs.ranges.TimeRange.is_never.Goals as goal

pub returns-clause-some : goal.returns-clause-some
returns-clause-some c = λ some. rw (← c.self.view_is) (some_point _ c.self.invariant (c.is_none.ensures ∙ ap not some))
