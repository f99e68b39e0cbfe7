use Rattle.std.proofs.lemmas.Result.{on_ok_weaker}
use Rattle.disk_trait.specs.Calls.{Unchanged}
use Rattle.site_edge.proofs.MomentLemmas.{disk_call, durable, unchanged_leaves_told}
use Rattle.site_edge.proofs.memory_site.MemorySiteDisk.sync.Goals as goal

pub returns-clause-call : goal.returns-clause-call
returns-clause-call c = rw (← c.self.view_is) (disk_call _ Unchanged _ _ _ unchanged_leaves_told c.self.invariant c.sync.ensures.call c.sync.ensures.fails)

pub returns-clause-durable : goal.returns-clause-durable
returns-clause-durable c = λ honest. on_ok_weaker c.sync.result (λ only. durable _ _ only) (c.sync.ensures.durable honest)
