use Rattle.generated_workload.specs.Workload.{get_root}
use Rattle.generated_workload.proofs.Lists.{one_behind, repeat_more}
use Rattle.generated_workload.proofs.workload.append_roots.Goals as goal

-- one request more
pub loop-preserved : goal.loop-preserved
loop-preserved c = one_behind _ _ _ _ _ _ c.loop.invariant c.in_ok-append_bare.ensures (repeat_more c.loop.counter get_root)
