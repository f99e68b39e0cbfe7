use Rattle.std.proofs.Common.{refl}
use Rattle.media_rows.specs.Lists.{numbers_below}
use Rattle.library_examples.proofs.views.flow_parts_are_shown.Goals as goal

pub returns : goal.returns
unfolding numbers_below
returns c = record {
  tag = refl;
  all_tags = refl;
  label = refl;
  description = refl;
  mark = refl;
  other_mark = refl;
  collection = refl;
  max_rate = refl;
  avg_rate = refl;
  no_tag = refl;
  no_tags = refl;
  no_label = refl;
  no_description = refl;
  no_collection = refl;
  no_max_rate = refl;
  no_avg_rate = refl;
}
