use Rattle.hook_delivery.proofs.Exchanges.{exchanges_with, misses}
use Rattle.hook_delivery.proofs.exchanging.exchange.Goals as goal

-- the port was dialled, the request was said and answered, and the connection was ended
pub returns-in-Ok-clause-ok : goal.returns-in-Ok-clause-ok
returns-in-Ok-clause-ok g c =
    exchanges_with _ _ _ _ _ _ _ _ c.bytes.ensures c.in-Ok.ensures.call c.in-Ok.ensures.dialled c.ask-answer.ensures.asked
    c.close_peer.ensures.call c.close_peer.ensures.closed

-- the port wasn't dialled
pub returns-clause-ok : goal.returns-clause-ok
returns-clause-ok g c = misses _ _ _ _ c.in-Err.ensures.call c.in-Err.ensures.dialled
