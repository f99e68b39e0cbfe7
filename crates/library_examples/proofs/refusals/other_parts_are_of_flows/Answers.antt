use Rattle.std.proofs.Common.{refl}
use Rattle.media_rows.specs.Lists.{numbers_below}
use Rattle.library_examples.proofs.refusals.other_parts_are_of_flows.Goals as goal

pub returns : goal.returns
unfolding numbers_below
returns c = record {
  mark = refl;
  collection = refl;
  no_collection = refl;
  max_rate = refl;
  avg_rate = refl;
  applies_not = refl;
  tag_is = refl;
  label_is = refl;
  description_is = refl;
  mark_isnt = refl;
  collection_isnt = refl;
  max_rate_isnt = refl;
  avg_rate_isnt = refl;
}
