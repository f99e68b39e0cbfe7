use Rattle.std.proofs.Common.{refl}
use Rattle.media_rows.specs.Lists.{numbers_below}
use Rattle.library_examples.proofs.views.ids_in_pages.Goals as goal

pub returns : goal.returns
unfolding numbers_below
returns c = record { first = refl; second = refl; backwards = refl; backwards_last = refl }
