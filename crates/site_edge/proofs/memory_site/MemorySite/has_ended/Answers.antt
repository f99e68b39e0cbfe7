use Rattle.std.proofs.Common.{◌<◌, length}
use Rattle.std.proofs.lemmas.List.{length-map}
use Rattle.disk_trait.specs.Device.{Connection}
use Rattle.site_edge.proofs.ConnectionLemmas.{connection_at}
use Rattle.site_edge.proofs.memory_site.MemorySite.has_ended.Goals as goal

pub returns : goal.returns
returns c =
    let within : c.args.peer < length c.self.inside.lines.items = rw (← c.self.view_is, length-map) at c.requires in
    rw (c.has_ended.ensures, ← c.self.view_is)
    (connection_at (λ (x : Connection). x.ended) c.self.inside.lines.items c.args.peer c.index.result.now within c.index.ensures)
