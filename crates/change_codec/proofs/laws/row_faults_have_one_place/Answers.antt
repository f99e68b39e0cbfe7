use Rattle.change_codec.proofs.CodecLemmas.{one_row_fault}
use Rattle.change_codec.proofs.laws.row_faults_have_one_place.Goals as goal

pub returns : goal.returns
returns c = one_row_fault
