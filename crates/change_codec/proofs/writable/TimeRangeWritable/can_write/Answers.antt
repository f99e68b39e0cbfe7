use Rattle.change_codec.proofs.Asking.{range_asks}
use Rattle.change_codec.proofs.writable.TimeRangeWritable.can_write.Goals as goal

pub returns-clause-yes : goal.returns-clause-yes
returns-clause-yes c = λ told. range_asks _
