use Rattle.std.proofs.Common.{refl}
use Rattle.media_rows.specs.Lists.{numbers_below}
use Rattle.library_examples.proofs.refusals.unset_parts_are_named.Goals as goal

pub returns : goal.returns
unfolding numbers_below
returns c = record {
  tag = refl;
  label = refl;
  description = refl;
  collection = refl;
  max_rate = refl;
  avg_rate = refl;
  other_tag = refl;
  source_tag = refl;
  source_label = refl;
  source_description = refl;
}
