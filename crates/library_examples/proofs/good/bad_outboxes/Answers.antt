use Rattle.std.proofs.Common.{refl}
use Rattle.media_rows.specs.Lists.{numbers_below}
use Rattle.library_examples.proofs.good.bad_outboxes.Goals as goal

pub returns : goal.returns
unfolding numbers_below
returns c = record { fine = refl; no_hook = refl; full = refl; not_failed = refl; failed = refl; too_many = refl }
