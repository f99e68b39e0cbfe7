use Rattle.change_codec.proofs.Asking.{status_asks}
use Rattle.change_codec.proofs.writable.DeleteStatusWritable.can_write.Goals as goal

pub returns-clause-yes : goal.returns-clause-yes
returns-clause-yes c = λ told. status_asks _
