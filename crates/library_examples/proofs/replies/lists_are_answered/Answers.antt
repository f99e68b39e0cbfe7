use Rattle.std.proofs.Common.{refl}
use Rattle.media_rows.specs.Lists.{numbers_below}
use Rattle.library_examples.proofs.replies.lists_are_answered.Goals as goal

pub returns : goal.returns
unfolding numbers_below
returns c = record { partly = refl; serials = refl; again = refl; whole = refl }
