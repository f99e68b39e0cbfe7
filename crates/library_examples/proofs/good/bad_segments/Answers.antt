use Rattle.std.proofs.Common.{refl}
use Rattle.media_rows.specs.Lists.{numbers_below}
use Rattle.library_examples.proofs.good.bad_segments.Goals as goal

pub returns : goal.returns
unfolding numbers_below
returns c = record { overlapping_ones = refl; of_two_flows = refl; unbounded = refl; empty_range = refl; unkept = refl }
