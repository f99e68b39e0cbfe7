use Rattle.disk_trait.specs.Calls.{Unchanged}
use Rattle.site_edge.proofs.MomentLemmas.{disk_call, unchanged_leaves_told}
use Rattle.site_edge.proofs.memory_site.MemorySiteDisk.read_at.Goals as goal

pub returns-clause-call : goal.returns-clause-call
returns-clause-call c =
    rw (← c.self.view_is) (disk_call _ Unchanged _ _ _ unchanged_leaves_told c.self.invariant c.read_at.ensures.call c.read_at.ensures.fails)
