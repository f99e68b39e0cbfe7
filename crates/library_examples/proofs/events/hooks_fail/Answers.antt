use Rattle.std.proofs.Common.{refl}
use Rattle.media_rows.specs.Lists.{numbers_below}
use Rattle.library_examples.proofs.events.hooks_fail.Goals as goal

pub returns : goal.returns
unfolding numbers_below
returns c = record {
  below = refl;
  failed = refl;
  full = refl;
  takes_no_more = refl;
  no_serial_spent = refl;
  within_a_change = refl;
  one_serial_spent = refl;
}
