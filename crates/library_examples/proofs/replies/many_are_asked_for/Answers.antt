use Rattle.std.proofs.Common.{refl}
use Rattle.media_rows.specs.Lists.{numbers_below}
use Rattle.library_examples.proofs.replies.many_are_asked_for.Goals as goal

pub returns : goal.returns
unfolding numbers_below
returns c = record { few = refl; many = refl; cut_few = refl; cut_many = refl; none_covered = refl }
