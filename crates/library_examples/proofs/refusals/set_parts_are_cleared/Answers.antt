use Rattle.std.proofs.Common.{refl}
use Rattle.media_rows.specs.Lists.{numbers_below}
use Rattle.library_examples.proofs.refusals.set_parts_are_cleared.Goals as goal

pub returns : goal.returns
unfolding numbers_below
returns c = record {
  tag = refl;
  label = refl;
  description = refl;
  collection = refl;
  max_rate = refl;
  avg_rate = refl;
  new_label = refl;
  new_rate = refl;
  source_tag = refl;
  source_label = refl;
  source_description = refl;
}
