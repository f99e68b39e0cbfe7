use Rattle.std.proofs.Common.{refl}
use Rattle.media_rows.specs.Lists.{numbers_below}
use Rattle.library_examples.proofs.turns.sweeps_when_due.Goals as goal

pub returns : goal.returns
unfolding numbers_below
returns c = record {
  idle_since = refl;
  not_yet = refl;
  due = refl;
  gone = refl;
  named_stays = refl;
  place = refl;
  no_place = refl;
  place_again = refl;
}
