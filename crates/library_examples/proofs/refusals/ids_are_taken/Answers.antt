use Rattle.std.proofs.Common.{refl}
use Rattle.media_rows.specs.Lists.{numbers_below}
use Rattle.media_rows.specs.Ids.{id_text}
use Rattle.uuid.specs.Text.{by_index}
use Rattle.std.specs.Fmt.{digits}
use Rattle.library_examples.proofs.refusals.ids_are_taken.Goals as goal

pub returns : goal.returns
unfolding numbers_below id_text by_index digits
returns c = record { kept = refl; allocated = refl; twice = refl; free = refl; counted = refl; repeated = refl }
