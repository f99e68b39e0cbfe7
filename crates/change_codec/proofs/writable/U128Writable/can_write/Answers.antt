use Rattle.change_codec.proofs.Asking.{u128_asks}
use Rattle.change_codec.proofs.writable.U128Writable.can_write.Goals as goal

pub returns-clause-yes : goal.returns-clause-yes
returns-clause-yes c = λ told. u128_asks _
