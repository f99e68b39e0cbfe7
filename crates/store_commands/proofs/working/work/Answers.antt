use Rattle.store_commands.proofs.WorkEndLemmas.{work_ends}
use Rattle.store_commands.proofs.working.work.Goals as goal

-- What its end says is put together.
pub returns-clause-ends : goal.returns-clause-ends
returns-clause-ends g c = work_ends _ _ _ _ _ c.open_and_turn.result c.open_and_turn.ensures.disk c.open_and_turn.ensures.ends
