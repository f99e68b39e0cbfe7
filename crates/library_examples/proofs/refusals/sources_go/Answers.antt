use Rattle.std.proofs.Common.{refl}
use Rattle.media_rows.specs.Lists.{numbers_below}
use Rattle.library_examples.proofs.refusals.sources_go.Goals as goal

pub returns : goal.returns
unfolding numbers_below
returns c = record { one_source_for_two = refl; stays_with_one = refl; goes_with_last = refl; new_stands_by_id = refl; other_stays = refl }
