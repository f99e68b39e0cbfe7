use Rattle.store_commands.proofs.DeliverEndLemmas.{deliver_ends}
use Rattle.store_commands.proofs.delivering.deliver.Goals as goal

-- What its end says is put together.
pub returns-clause-ends : goal.returns-clause-ends
returns-clause-ends g c = deliver_ends _ _ _ _ _ c.open_and_deliver.result c.open_and_deliver.ensures.disk c.open_and_deliver.ensures.ends
