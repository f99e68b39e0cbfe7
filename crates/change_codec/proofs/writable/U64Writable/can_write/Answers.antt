use Rattle.change_codec.proofs.Asking.{u64_asks}
use Rattle.change_codec.proofs.writable.U64Writable.can_write.Goals as goal

pub returns-clause-yes : goal.returns-clause-yes
returns-clause-yes c = λ told. u64_asks _
