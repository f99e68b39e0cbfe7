use Rattle.time_range.proofs.SpanPoints.{point_between}
use Rattle.time_range.proofs.ranges.TimeRange.spanning.Goals as goal

-- ends that are in order have a point between them
pub returns-then-is_ordered-clause-never : goal.returns-then-is_ordered-clause-never
returns-then-is_ordered-clause-never c =
    let q = point_between c.args.low c.args.high (c.is_ordered.ensures.ordered.0 c.if-is_ordered.true) in
    (λ never. cc, λ none. absurd (none q.0 (q.1, q.2)))
