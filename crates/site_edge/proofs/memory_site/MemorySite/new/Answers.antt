use Rattle.site_edge.proofs.MomentLemmas.{durable}
use Rattle.site_edge.proofs.memory_site.MemorySite.new.Goals as goal

pub returns-clause-durable : goal.returns-clause-durable
returns-clause-durable c = λ only. durable _ _ only
