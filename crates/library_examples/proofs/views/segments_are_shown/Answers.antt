use Rattle.std.proofs.Common.{refl}
use Rattle.media_rows.specs.Lists.{numbers_below}
use Rattle.library_examples.proofs.views.segments_are_shown.Goals as goal

pub returns : goal.returns
unfolding numbers_below
returns c = record { all = refl; part = refl; of_object = refl; no_object = refl; never = refl; page_of_object = refl }
