use Rattle.change_codec.proofs.CodecLemmas.{one_change_fault}
use Rattle.change_codec.proofs.laws.change_faults_have_one_place.Goals as goal

pub returns : goal.returns
returns c = one_change_fault
