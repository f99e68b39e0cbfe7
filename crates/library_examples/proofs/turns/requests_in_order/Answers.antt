use Rattle.std.proofs.Common.{refl}
use Rattle.media_rows.specs.Lists.{numbers_below}
use Rattle.library_examples.proofs.turns.requests_in_order.Goals as goal

pub returns : goal.returns
unfolding numbers_below
returns c = record { first_one = refl; first_left = refl; both = refl; flow_gone = refl; flow_stays = refl; flow_left = refl; done = refl }
