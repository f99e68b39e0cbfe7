use Rattle.std.proofs.Common.{refl}
use Rattle.media_rows.specs.Lists.{numbers_below}
use Rattle.library_examples.proofs.replies.places_are_found.Goals as goal

pub returns : goal.returns
unfolding numbers_below
returns c = record { behind = refl; whole = refl; too_many = refl; no_blocks = refl; between = refl; in_front = refl; past = refl }
