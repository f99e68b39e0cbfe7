use Rattle.std.proofs.Common.{refl}
use Rattle.media_rows.specs.Lists.{numbers_below}
use Rattle.library_examples.proofs.good.bad_references.Goals as goal

pub returns : goal.returns
unfolding numbers_below
returns c = record { fine = refl; unkept = refl; unstored = refl; last_one = refl; no_good_library = refl }
