use Rattle.std.proofs.Common.{refl}
use Rattle.media_rows.specs.Lists.{numbers_below}
use Rattle.library_examples.proofs.rows.rows_are_kept.Goals as goal

pub returns : goal.returns
unfolding numbers_below
returns c = record { same_book = refl; studio_book = refl; restored = refl; sourceless = refl }
