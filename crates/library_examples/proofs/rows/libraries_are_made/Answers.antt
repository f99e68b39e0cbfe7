use Rattle.std.proofs.Common.{refl}
use Rattle.media_rows.specs.Lists.{numbers_below}
use Rattle.library_examples.proofs.rows.libraries_are_made.Goals as goal

pub returns : goal.returns
unfolding numbers_below
returns c = record { whole = refl; none = refl; hook = refl; event_row = refl; serial = refl }
