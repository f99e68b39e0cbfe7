use Rattle.std.proofs.Common.{refl}
use Rattle.media_rows.specs.Lists.{numbers_below}
use Rattle.library_examples.proofs.turns.deletes_in_steps.Goals as goal

pub returns : goal.returns
unfolding numbers_below
returns c = record {
  at_once = refl;
  one_left = refl;
  request = refl;
  due = refl;
  after_first = refl;
  started = refl;
  later_post_stays = refl;
  done = refl;
  no_more = refl;
  last_step = refl;
  not_the_last = refl;
}
