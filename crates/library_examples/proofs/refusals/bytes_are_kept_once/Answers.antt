use Rattle.std.proofs.Common.{refl}
use Rattle.media_rows.specs.Lists.{numbers_below}
use Rattle.library_examples.proofs.refusals.bytes_are_kept_once.Goals as goal

pub returns : goal.returns
unfolding numbers_below
returns c = record { unknown = refl; again = refl; first = refl }
