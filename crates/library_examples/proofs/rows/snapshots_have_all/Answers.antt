use Rattle.std.proofs.Common.{refl}
use Rattle.media_rows.specs.Lists.{numbers_below}
use Rattle.library_examples.proofs.rows.snapshots_have_all.Goals as goal

pub returns : goal.returns
unfolding numbers_below
returns c = record { kinds = refl; rising = refl; whole = refl; studio_rises = refl; empty = refl }
