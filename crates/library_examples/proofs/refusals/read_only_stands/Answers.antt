use Rattle.std.proofs.Common.{refl}
use Rattle.media_rows.specs.Lists.{numbers_below}
use Rattle.library_examples.proofs.refusals.read_only_stands.Goals as goal

pub returns : goal.returns
unfolding numbers_below
returns c = record {
  put = refl;
  drop = refl;
  allocation = refl;
  post = refl;
  cut = refl;
  tag = refl;
  label = refl;
  description = refl;
  collection = refl;
  max_rate = refl;
  avg_rate = refl;
  mark = refl;
  source = refl;
}
