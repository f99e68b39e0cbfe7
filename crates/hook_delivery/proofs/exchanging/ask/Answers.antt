use Rattle.hook_delivery.proofs.Exchanges.{asks, asks_in_vain}
use Rattle.hook_delivery.proofs.exchanging.ask.Goals as goal

-- the request was said and answered
pub returns-in-Ok-clause-asked : goal.returns-in-Ok-clause-asked
returns-in-Ok-clause-asked g c = asks _ _ _ _ c.hear_answer.result c.in-Ok.ensures.call c.in-Ok.ensures.said c.hear_answer.ensures

-- it wasn't said whole
pub returns-in-Err-clause-asked : goal.returns-in-Err-clause-asked
returns-in-Err-clause-asked g c = asks_in_vain _ _ _ c.in-Err.ensures.call c.in-Err.ensures.said
