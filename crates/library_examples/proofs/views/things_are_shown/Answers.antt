use Rattle.std.proofs.Common.{refl}
use Rattle.media_rows.specs.Lists.{numbers_below}
use Rattle.library_examples.proofs.views.things_are_shown.Goals as goal

pub returns : goal.returns
unfolding numbers_below
returns c = record {
  root = refl;
  service = refl;
  source = refl;
  flow = refl;
  other_hull = refl;
  no_hull = refl;
  object = refl;
  other_object = refl;
  unnamed_object = refl;
  request = refl;
  requests = refl;
  hooks = refl;
}
