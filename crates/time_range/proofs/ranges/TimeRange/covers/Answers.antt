use Rattle.std.proofs.Common.{◌≡◌, Some, None, sym, ◌∙◌}
use Rattle.time_range.proofs.SpanPoints.{span_of, not_covered_by_never, covers_from_reach, reach_from_covers}
use Rattle.time_range.proofs.ranges.TimeRange.covers.Goals as goal

pub returns-in-None-Some : goal.returns-in-None-Some
returns-in-None-Some c =
    let never : c.args.self.now ≡ None = sym c.self.view_is ∙ c.in-None-Some.is-0 in
    let inner : c.args.other.now ≡ Some c.in-None-Some.field-0-1 = sym c.other.view_is ∙ c.in-None-Some.is-1 in
    let fine = span_of _ _ c.in-None-Some.is-1 c.other.invariant in
    rw (never, inner) (λ no. cc, λ covers. absurd (not_covered_by_never _ fine covers))

pub returns-in-Some-Some : goal.returns-in-Some-Some
returns-in-Some-Some c =
    let outer : c.args.self.now ≡ Some c.in-Some-Some.outer = sym c.self.view_is ∙ c.in-Some-Some.is-0 in
    let inner : c.args.other.now ≡ Some c.in-Some-Some.inner = sym c.other.view_is ∙ c.in-Some-Some.is-1 in
    let fine = span_of _ _ c.in-Some-Some.is-1 c.other.invariant in
    rw (outer, inner) (
      λ yes. let reach = c.reaches_over.ensures.0 yes in covers_from_reach _ _ reach.0 reach.1,
      λ covers. c.reaches_over.ensures.1 (reach_from_covers _ _ fine covers),
    )
