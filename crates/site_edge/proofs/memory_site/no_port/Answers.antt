use Rattle.std.proofs.Common.{refl}
use Rattle.site_edge.specs.MemorySite.{none_missed}
use Rattle.site_edge.proofs.memory_site.no_port.Goals as goal

pub returns : goal.returns
unfolding none_missed
returns c = refl
