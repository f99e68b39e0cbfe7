use Rattle.store_commands.proofs.CheckEndLemmas.{check_ends}
use Rattle.store_commands.proofs.checking.check.Goals as goal

-- What its end says is put together.
pub returns-clause-ends : goal.returns-clause-ends
returns-clause-ends g c = check_ends _ _ c.open_and_probe.result c.open_and_probe.ensures.disk c.open_and_probe.ensures.ends
