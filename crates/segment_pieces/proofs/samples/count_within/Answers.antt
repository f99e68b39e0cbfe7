use Rattle.std.proofs.Common.{arith}
use Rattle.segment_pieces.proofs.SampleLemmas.{counted_within}
use Rattle.segment_pieces.proofs.samples.count_within.Goals as goal

-- those up to the end, without those before
pub returns : goal.returns
returns c =
    let counts = counted_within c.args.rate.now c.args.range.now c.args.part.now _ _ c.args.count
    c.requires c.count_before-before.ensures
    c.count_to_end-to_end.ensures in
    omega arith
