use Rattle.change_codec.proofs.CodecLemmas.{no_prefix}
use Rattle.change_codec.proofs.laws.rows_are_no_prefixes.Goals as goal

pub returns : goal.returns
returns c = no_prefix
