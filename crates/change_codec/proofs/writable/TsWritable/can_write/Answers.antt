use Rattle.change_codec.proofs.Asking.{ts_asks}
use Rattle.change_codec.proofs.writable.TsWritable.can_write.Goals as goal

pub returns-clause-yes : goal.returns-clause-yes
returns-clause-yes c = λ told. ts_asks _
