use Rattle.std.proofs.Common.{arith}
use Rattle.std.proofs.lemmas.Int.{ints}
use Rattle.segment_pieces.proofs.CountLemmas.{counted_nanos}
use Rattle.segment_pieces.proofs.samples.count_until.Goals as goal

-- the closed form, at the rate's numbers
pub returns : goal.returns
returns c = λ k.
    counted_nanos c.args.rate.now c.from.result c.from-span.result c.unsigned_abs.result k
    c.args.nanos c.from.ensures c.from-span.ensures
    (omega (arith, ints, c.unsigned_abs.ensures.value, c.if-nanos-lt0.false))
