use Rattle.std.proofs.Common.{refl}
use Rattle.media_rows.specs.Lists.{numbers_below}
use Rattle.library_examples.proofs.stamps.request_stamps.Goals as goal

pub returns : goal.returns
unfolding numbers_below
returns c = record { asked_for = refl; stepped = refl; flow_gone = refl; other_gone = refl; done_is_left = refl }
