use Rattle.change_codec.proofs.RowLaws.{first_is_kind}
use Rattle.change_codec.proofs.laws.rows_begin_with_their_kinds.Goals as goal

pub returns : goal.returns
returns c = first_is_kind
