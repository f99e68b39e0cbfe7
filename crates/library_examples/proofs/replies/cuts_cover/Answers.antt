use Rattle.std.proofs.Common.{refl}
use Rattle.media_rows.specs.Lists.{numbers_below}
use Rattle.library_examples.proofs.replies.cuts_cover.Goals as goal

pub returns : goal.returns
unfolding numbers_below
returns c = record { covers = refl; meets = refl; left = refl; whole = refl; inner = refl }
