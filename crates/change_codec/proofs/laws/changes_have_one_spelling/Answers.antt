use Rattle.change_codec.proofs.CodecLemmas.{one_change}
use Rattle.change_codec.proofs.laws.changes_have_one_spelling.Goals as goal

pub returns : goal.returns
returns c = one_change
