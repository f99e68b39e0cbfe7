use Rattle.std.proofs.Common.{refl}
use Rattle.media_rows.specs.Lists.{numbers_below}
use Rattle.media_rows.specs.Ids.{id_text}
use Rattle.uuid.specs.Text.{by_index}
use Rattle.std.specs.Fmt.{digits}
use Rattle.library_examples.proofs.replies.ids_are_made.Goals as goal

pub returns : goal.returns
unfolding numbers_below id_text by_index digits
returns c = record { first = refl; like_it = refl; other = refl; counted = refl; serials_are_theirs = refl; refused_name = refl }
