use Rattle.std.proofs.Common.{refl}
use Rattle.media_rows.specs.Lists.{numbers_below}
use Rattle.library_examples.proofs.good.bad_names.Goals as goal

pub returns : goal.returns
unfolding numbers_below
returns c = record {
  fine = refl;
  flow_twice = refl;
  flows_turned = refl;
  object_twice = refl;
  hook_twice = refl;
  serial_twice = refl;
  serials_turned = refl;
  serial_0 = refl;
  not_below = refl;
  last = refl;
  past_the_last = refl;
}
