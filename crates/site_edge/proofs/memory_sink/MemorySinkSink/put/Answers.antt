-- The bytes that were put are those that the sink took more.
use Rattle.site_edge.proofs.SendLemmas.{sends_all}
use Rattle.site_edge.proofs.memory_sink.MemorySinkSink.put.Goals as goal

pub returns-then-grow-clause-puts : goal.returns-then-grow-clause-puts
returns-then-grow-clause-puts c _ = (c.args.bytes.now, sends_all c.args.bytes.now, rw (← c.self.view_is) c.if-grow.ensures.taken)
