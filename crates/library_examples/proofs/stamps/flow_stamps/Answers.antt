use Rattle.std.proofs.Common.{refl}
use Rattle.media_rows.specs.Lists.{numbers_below}
use Rattle.library_examples.proofs.stamps.flow_stamps.Goals as goal

pub returns : goal.returns
unfolding numbers_below
returns c = record {
  kept_put = refl;
  new_put = refl;
  part_set = refl;
  source_set = refl;
  dropped = refl;
  allocated = refl;
  stored = refl;
  posted = refl;
  cut = refl;
  asked_for = refl;
  stepped = refl;
  empty_step = refl;
  swept = refl;
}
