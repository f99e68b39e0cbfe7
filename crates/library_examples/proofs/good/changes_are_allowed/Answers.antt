use Rattle.std.proofs.Common.{refl}
use Rattle.media_rows.specs.Lists.{numbers_below}
use Rattle.library_examples.proofs.good.changes_are_allowed.Goals as goal

pub returns : goal.returns
unfolding numbers_below
returns c = record {
  made_id_again = refl;
  kept_id = refl;
  id_twice = refl;
  read_only_put = refl;
  read_only_drop = refl;
  read_only_post = refl;
  read_only_cut = refl;
  read_only_allocation = refl;
  overlap = refl;
  no_bytes = refl;
  no_source = refl;
  unset_part = refl;
  higher_place = refl;
  past_the_end = refl;
  hook = refl;
  early_sweep = refl;
  sweep = refl;
  step = refl;
}
