use Rattle.change_codec.proofs.ChangeLaws.{first_is_kind}
use Rattle.change_codec.proofs.laws.changes_begin_with_their_kinds.Goals as goal

pub returns : goal.returns
returns c = λ form. first_is_kind
