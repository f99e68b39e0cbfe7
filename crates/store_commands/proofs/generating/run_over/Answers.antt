use Rattle.store_commands.proofs.WorkloadLemmas.{workload_run}
use Rattle.store_commands.proofs.generating.run_over.Goals as goal

-- The requests were answered, and what the store keeps was counted.
pub returns : goal.returns
returns c =
    workload_run c.args.number c.args.count c.args.requests.now _ c.in-Some.answered c.in-Some-kept_in.kept c.requires.requests
    (rw c.in-Some.is at c.in_ok-answered.ensures) c.in-Some-kept_in.ensures
