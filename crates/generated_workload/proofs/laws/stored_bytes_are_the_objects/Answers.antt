use Rattle.generated_workload.proofs.Sums.{stored_bytes_are_the_objects}
use Rattle.generated_workload.proofs.laws.stored_bytes_are_the_objects.Goals as goal

pub returns : goal.returns
returns c = stored_bytes_are_the_objects
