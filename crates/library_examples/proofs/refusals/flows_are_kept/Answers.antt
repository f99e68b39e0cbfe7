use Rattle.std.proofs.Common.{refl}
use Rattle.media_rows.specs.Lists.{numbers_below}
use Rattle.library_examples.proofs.refusals.flows_are_kept.Goals as goal

pub returns : goal.returns
unfolding numbers_below
returns c = record { set = refl; drop = refl; allocation = refl; post = refl; cut = refl; source = refl }
