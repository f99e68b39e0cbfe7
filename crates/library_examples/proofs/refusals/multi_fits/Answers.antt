use Rattle.std.proofs.Common.{refl}
use Rattle.media_rows.specs.Lists.{numbers_below}
use Rattle.library_examples.proofs.refusals.multi_fits.Goals as goal

pub returns : goal.returns
unfolding numbers_below
returns c = record {
  multi = refl;
  video = refl;
  audio = refl;
  image = refl;
  data_essence = refl;
  new_source = refl;
  under_multi = refl;
  multi_again = refl;
}
