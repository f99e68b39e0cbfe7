use Rattle.site_edge.proofs.KeptLemmas.{kept_heard}
use Rattle.site_edge.proofs.memory_site.MemorySite.try_hear.Goals as goal

pub invariant_of-self : goal.invariant_of-self
invariant_of-self c = kept_heard c.hear_last.result c.hear_last.new.out _ c.hear_last.new.lines.items c.hear_last.ensures.heard c.hear_last.ensures.err c.self.invariant
