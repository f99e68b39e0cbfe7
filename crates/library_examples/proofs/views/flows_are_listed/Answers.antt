use Rattle.std.proofs.Common.{refl}
use Rattle.media_rows.specs.Lists.{numbers_below}
use Rattle.library_examples.proofs.views.flows_are_listed.Goals as goal

pub returns : goal.returns
unfolding numbers_below
returns c = record {
  all = refl;
  by_source = refl;
  no_source = refl;
  by_format = refl;
  no_format = refl;
  by_codec = refl;
  part_of_codec = refl;
  by_label = refl;
  no_label = refl;
  by_value = refl;
  no_value = refl;
  both_tests = refl;
  with_tag = refl;
  without_tag = refl;
  within = refl;
  within_one = refl;
  within_none = refl;
  within_all = refl;
  within_never = refl;
  view = refl;
}
