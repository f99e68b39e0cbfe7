use Rattle.std.proofs.Common.{refl}
use Rattle.media_rows.specs.Lists.{numbers_below}
use Rattle.library_examples.proofs.turns.steps_go_by_first_point.Goals as goal

pub returns : goal.returns
unfolding numbers_below
returns c = record { left_once = refl; started = refl; left_twice = refl; done = refl; events = refl }
