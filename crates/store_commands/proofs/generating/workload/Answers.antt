use Rattle.store_commands.proofs.WorkloadEndLemmas.{workload_ends}
use Rattle.store_commands.proofs.generating.workload.Goals as goal

-- What its end says is put together.
pub returns : goal.returns
returns c = workload_ends c.args.number c.args.count c.run_generated.result c.run_generated.ensures
