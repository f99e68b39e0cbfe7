use Rattle.change_codec.proofs.DigestLemmas.{digests_have_halves}
use Rattle.change_codec.proofs.digests.digests_have_halves.Goals as goal

pub returns : goal.returns
returns c = digests_have_halves
