use Rattle.std.proofs.Common.{FitsSigned, ap, ◌∙◌}
use mir.Syntax.{w128}
use Rattle.std.proofs.lemmas.Int.{to_z-of_z}
use Rattle.segment_index.specs.Answers.{without_start}
use Rattle.segment_index.proofs.Changed.{index_without, values_without}
use Rattle.segment_index.proofs.index.SegmentIndex.remove.Goals as goal

-- the others stay apart
pub invariant_of-result : goal.invariant_of-result
invariant_of-result c =
    let fit : FitsSigned w128 c.args.low = c.ranges.low in
    let pairs = simp to_z-of_z at c.in_ok-without.ensures in
    index_without c.args.low c.self.inside.rows c.in_ok-without.field-0 c.keys_rise.ensures c.self.invariant pairs

pub returns : goal.returns
returns c =
    let fit : FitsSigned w128 c.args.low = c.ranges.low in
    let pairs = simp to_z-of_z at c.in_ok-without.ensures in
    values_without c.args.low c.self.inside.rows c.in_ok-without.field-0 c.keys_rise.ensures c.self.invariant.keyed pairs
    ∙ ap (without_start c.args.low) c.self.view_is
