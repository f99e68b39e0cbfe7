use Rattle.std.proofs.Common.{refl}
use Rattle.media_rows.specs.Lists.{numbers_below}
use Rattle.library_examples.proofs.events.first_are_delivered.Goals as goal

pub returns : goal.returns
unfolding numbers_below
returns c = record {
  first = refl;
  first_of_other = refl;
  second = refl;
  second_behind_first = refl;
  again = refl;
  no_event = refl;
  whole = refl;
}
