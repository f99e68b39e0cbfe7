use Rattle.change_codec.proofs.DigestLemmas.{digests_are_last, digests_take_alike}
use Rattle.change_codec.proofs.digests.digests_are_last.Goals as goal

pub returns : goal.returns
returns c = record { put = digests_are_last; size = digests_take_alike }
