use Rattle.std.proofs.Common.{◌≡◌, Some, None, sym, ◌∙◌, refl}
use Rattle.time_range.proofs.SpanPoints.{bounded_by_ends, bounded_never}
use Rattle.time_range.proofs.ranges.TimeRange.is_bounded.Goals as goal

pub returns-in-Some-clause-bounded : goal.returns-in-Some-clause-bounded
returns-in-Some-clause-bounded c =
    let some : c.args.self.now ≡ Some c.in-Some.span = sym c.self.view_is ∙ c.in-Some.is in
    let ends = bounded_by_ends c.in-Some.span in
    rw some (λ yes. ends.1 (c.has_both_ends.ensures.0 yes), λ bounded. c.has_both_ends.ensures.1 (ends.0 bounded))

pub returns-in-None-clause-bounded : goal.returns-in-None-clause-bounded
returns-in-None-clause-bounded c =
    let never : c.args.self.now ≡ None = sym c.self.view_is ∙ c.in-None.is in
    rw never (λ yes. bounded_never, λ bounded. refl)
