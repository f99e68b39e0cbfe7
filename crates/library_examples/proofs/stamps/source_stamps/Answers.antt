use Rattle.std.proofs.Common.{refl}
use Rattle.media_rows.specs.Lists.{numbers_below}
use Rattle.library_examples.proofs.stamps.source_stamps.Goals as goal

pub returns : goal.returns
unfolding numbers_below
returns c = record { kept_put = refl; new_put = refl; flow_of_kept = refl; part_set = refl; source_set = refl; dropped = refl }
