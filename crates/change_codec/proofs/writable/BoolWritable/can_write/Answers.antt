use Rattle.change_codec.proofs.Asking.{bool_asks}
use Rattle.change_codec.proofs.writable.BoolWritable.can_write.Goals as goal

pub returns-clause-yes : goal.returns-clause-yes
returns-clause-yes c = λ told. bool_asks _
