use Rattle.std.proofs.Common.{refl}
use Rattle.media_rows.specs.Lists.{numbers_below}
use Rattle.library_examples.proofs.stamps.idle_moments.Goals as goal

pub returns : goal.returns
unfolding numbers_below
returns c = record {
  allocated = refl;
  stored = refl;
  posted = refl;
  cut_last = refl;
  cut_other = refl;
  dropped = refl;
  dropped_all = refl;
  stepped = refl;
  swept = refl;
}
