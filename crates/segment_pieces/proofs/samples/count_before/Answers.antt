use Rattle.std.proofs.Common.{sym, arith}
use Rattle.std.proofs.lemmas.Int.{to_z-of_z}
use Rattle.segment_pieces.proofs.SampleLemmas.{stand_before_from}
use Rattle.segment_pieces.proofs.samples.count_before.Goals as goal

-- what stands up to the point before a part stands before it
pub returns : goal.returns
returns c =
    stand_before_from c.args.rate.now c.args.range.now c.args.part.now c.in-Some.low _
    (sym c.in-Some.ensures.value) (grind (arith, to_z-of_z))
