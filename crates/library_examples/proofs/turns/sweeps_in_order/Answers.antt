use Rattle.std.proofs.Common.{refl}
use Rattle.media_rows.specs.Lists.{numbers_below}
use Rattle.library_examples.proofs.turns.sweeps_in_order.Goals as goal

pub returns : goal.returns
unfolding numbers_below
returns c = record { order = refl; left = refl; one_due = refl; two_sweeps = refl }
