use Rattle.std.proofs.Common.{length}
use Rattle.disk_trait.specs.Calls.{TornWrite}
use Rattle.site_edge.proofs.MomentLemmas.{disk_call, torn_leaves_told}
use Rattle.site_edge.proofs.memory_site.MemorySiteDisk.write_at.Goals as goal

pub returns-clause-call : goal.returns-clause-call
returns-clause-call c =
    rw (← c.self.view_is) (disk_call _ (TornWrite c.args.at (length c.args.bytes.now)) _ _ _ (torn_leaves_told c.args.at (length c.args.bytes.now))
    c.self.invariant c.write_at.ensures.call c.write_at.ensures.fails)
