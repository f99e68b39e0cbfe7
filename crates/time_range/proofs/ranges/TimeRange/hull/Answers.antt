use Rattle.std.proofs.Common.{◌≡◌, Some, sym, ◌∙◌}
use Rattle.time_range.proofs.SpanPoints.{From-down, UpTo-up, span_of, hull_least}
use Rattle.time_range.proofs.ranges.TimeRange.hull.Goals as goal

pub returns-in-Some-Some-clause-left : goal.returns-in-Some-Some-clause-left
returns-in-Some-Some-clause-left c =
    let left : c.args.self.now ≡ Some c.in-Some-Some.a = sym c.self.view_is ∙ c.in-Some-Some.is-0 in
    rw left (λ p here.
    (c.spanning.ensures.points p).1 (From-down _ _ p c.lowest.ensures.left here.0, UpTo-up _ _ p c.highest.ensures.left here.1))

pub returns-in-Some-Some-clause-right : goal.returns-in-Some-Some-clause-right
returns-in-Some-Some-clause-right c =
    let right : c.args.other.now ≡ Some c.in-Some-Some.b = sym c.other.view_is ∙ c.in-Some-Some.is-1 in
    rw right (λ p here.
    (c.spanning.ensures.points p).1 (From-down _ _ p c.lowest.ensures.right here.0, UpTo-up _ _ p c.highest.ensures.right here.1))

pub returns-in-Some-Some-clause-least : goal.returns-in-Some-Some-clause-least
returns-in-Some-Some-clause-least c =
    let left : c.args.self.now ≡ Some c.in-Some-Some.a = sym c.self.view_is ∙ c.in-Some-Some.is-0 in
    let right : c.args.other.now ≡ Some c.in-Some-Some.b = sym c.other.view_is ∙ c.in-Some-Some.is-1 in
    let fine_a = span_of _ _ c.in-Some-Some.is-0 c.self.invariant in
    let fine_b = span_of _ _ c.in-Some-Some.is-1 c.other.invariant in
    rw (left, right) (λ range over_a over_b p here.
    hull_least range _ _ _ _ fine_a fine_b c.lowest.ensures.least c.highest.ensures.least over_a over_b p ((c.spanning.ensures.points p).0 here))
