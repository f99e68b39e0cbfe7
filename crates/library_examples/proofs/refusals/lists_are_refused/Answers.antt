use Rattle.std.proofs.Common.{refl}
use Rattle.media_rows.specs.Lists.{numbers_below}
use Rattle.library_examples.proofs.refusals.lists_are_refused.Goals as goal

pub returns : goal.returns
unfolding numbers_below
returns c = record { none_kept = refl; last_kept = refl; first_kept = refl; empty = refl; one = refl; no_flow = refl; in_part = refl; whole = refl }
