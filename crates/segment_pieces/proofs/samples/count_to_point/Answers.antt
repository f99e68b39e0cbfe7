use Rattle.std.proofs.Common.{◌≡◌, pos, arith}
use Rattle.std.specs.Int.{int_div_euclid, w128}
use Rattle.std.proofs.lemmas.Int.{ints, to_z-of_z}
use Rattle.segment_pieces.specs.Samples.{sample_nanos}
use Rattle.segment_pieces.proofs.SampleLemmas.{counted_to_point, half_bounds}
use Rattle.segment_pieces.proofs.samples.count_to_point.Goals as goal

-- an instant is at most a point where it is at most half of it
pub returns : goal.returns
returns c =
    let same : c.div_euclid.result ≡ int_div_euclid c.args.point (pos 2) =
    rw (to_z-of_z w128 c.args.point c.ranges.point) at c.div_euclid.ensures in
    let bounds = half_bounds c.args.point in
    counted_to_point c.args.first c.args.point _ (λ k. pos (sample_nanos c.args.rate.now k)) _
    (omega (arith, ints, same, bounds.0, bounds.1))
    c.count_until.ensures
