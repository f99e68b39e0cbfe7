use Rattle.disk_trait.specs.MemoryDisk.{LeavesAt}
use Rattle.disk_trait.proofs.StopLemmas.{if_ok_is, stopped_leaves}
use Rattle.disk_trait.proofs.memory_disk.MemoryDisk.stop_image.Goals as goal

pub returns-clause-leaves : goal.returns-clause-leaves
returns-clause-leaves c =
    if_ok_is c.stop_image.result (LeavesAt c.args.self.now.past c.args.call) _ c.stop_image.ensures
    (rw (← c.self.view_is) (stopped_leaves c.self.inside.history c.args.call c.args.kept (rw (← c.self.view_is) at c.requires)))
