use Rattle.change_codec.proofs.Asking.{event_asks}
use Rattle.change_codec.proofs.writable.EventKindWritable.can_write.Goals as goal

pub returns-clause-yes : goal.returns-clause-yes
returns-clause-yes c = λ told. event_asks _
