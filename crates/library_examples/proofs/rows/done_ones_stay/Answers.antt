use Rattle.std.proofs.Common.{refl}
use Rattle.media_rows.specs.Lists.{numbers_below}
use Rattle.library_examples.proofs.rows.done_ones_stay.Goals as goal

pub returns : goal.returns
unfolding numbers_below
returns c = record { sixty_four = refl; too_many = refl; enough = refl }
