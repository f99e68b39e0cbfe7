use Rattle.core_parts.proofs.Ready.{ready}
use Rattle.core_parts.proofs.laws.good_is_ready.Goals as goal

pub returns : goal.returns
returns c = ready
