use Rattle.std.proofs.Common.{refl}
use Rattle.media_rows.specs.Lists.{numbers_below}
use Rattle.library_examples.proofs.views.sources_are_listed.Goals as goal

pub returns : goal.returns
unfolding numbers_below
returns c = record {
  all = refl;
  by_format = refl;
  no_format = refl;
  by_label = refl;
  part_of_label = refl;
  by_value = refl;
  no_value = refl;
  with_tag = refl;
  without_tag = refl;
  view = refl;
}
