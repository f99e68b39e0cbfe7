use Rattle.generated_workload.proofs.Forms.{half_query_is_spelled}
use Rattle.generated_workload.proofs.laws.half_query_is_spelled.Goals as goal

pub returns : goal.returns
returns c = half_query_is_spelled
