use Rattle.change_codec.proofs.Asking.{kind_asks}
use Rattle.change_codec.proofs.writable.FormatKindWritable.can_write.Goals as goal

pub returns-clause-yes : goal.returns-clause-yes
returns-clause-yes c = λ told. kind_asks _
