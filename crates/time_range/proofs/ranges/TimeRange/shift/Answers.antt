use Rattle.std.proofs.Common.{◌≡◌, Some, sym, ◌∙◌}
use Rattle.time_range.proofs.SpanPoints.{Has-moved}
use Rattle.time_range.proofs.ranges.TimeRange.shift.Goals as goal

pub returns-then-is_high-clause-points : goal.returns-then-is_high-clause-points
returns-then-is_high-clause-points c =
    let some : c.args.self.now ≡ Some c.in-Some.span = sym c.self.view_is ∙ c.in-Some.is in
    rw some (Has-moved c.in-Some.span c.args.by _ _ _ c.moved-low.ensures c.moved-high.ensures c.spanning.ensures.points)
