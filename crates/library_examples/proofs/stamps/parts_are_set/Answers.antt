use Rattle.std.proofs.Common.{refl}
use Rattle.media_rows.specs.Lists.{numbers_below}
use Rattle.library_examples.proofs.stamps.parts_are_set.Goals as goal

pub returns : goal.returns
unfolding numbers_below
returns c = record {
  new_tag = refl;
  same_tag = refl;
  no_tag = refl;
  label_set = refl;
  no_description = refl;
  mark = refl;
  collection = refl;
  max_rate = refl;
  avg_rate = refl;
  source_label = refl;
  source_tag = refl;
  source_description = refl;
}
