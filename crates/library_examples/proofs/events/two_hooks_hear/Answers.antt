use Rattle.std.proofs.Common.{refl}
use Rattle.media_rows.specs.Lists.{numbers_below}
use Rattle.library_examples.proofs.events.two_hooks_hear.Goals as goal

pub returns : goal.returns
unfolding numbers_below
returns c = record {
  part_set = refl;
  replaced = refl;
  source_not_listed = refl;
  flow_not_listed = refl;
  source_set = refl;
  other_source_set = refl;
  kind_not_listed = refl;
  cut = refl;
  dropped = refl;
  source_gone = refl;
  whole_rows = refl;
  hull_of_the_added = refl;
  failed_hears_nothing = refl;
}
