use Rattle.std.proofs.Common.{refl}
use Rattle.media_rows.specs.Lists.{numbers_below}
use Rattle.library_examples.proofs.refusals.collections_are_tested.Goals as goal

pub returns : goal.returns
unfolding numbers_below
returns c = record { missing = refl; itself = refl; circle = refl; entries_go = refl; others_stay = refl }
