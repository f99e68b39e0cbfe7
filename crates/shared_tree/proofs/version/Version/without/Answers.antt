use Rattle.std.proofs.Common.{FitsSigned}
use mir.Syntax.{w128}
use Rattle.std.proofs.lemmas.Int.{to_z-of_z}
use Rattle.shared_tree.proofs.Counted.{follows_without}
use Rattle.shared_tree.proofs.version.Version.without.Goals as goal

-- keys rise without the pair, and there are as many as of other keys
pub invariant_of-result : goal.invariant_of-result
invariant_of-result g c =
    let fit : FitsSigned w128 c.args.key = c.ranges.key in
    let pairs = simp to_z-of_z at c.in_ok-cut.ensures.pairs in
    let others = simp to_z-of_z at c.others-others.ensures in
    let next = follows_without c.self.inside.tree.0 c.in_ok-cut.field-0.0 c.args.key c.saturating_sub.result c.others-others.result c.self.invariant.rising
    c.self.invariant.fits pairs (rw c.self.view_is others) c.saturating_sub.ensures in
    record { rising = next.rising; fits = next.fits; more = next.more }
