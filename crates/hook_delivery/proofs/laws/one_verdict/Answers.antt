use Rattle.hook_delivery.proofs.Verdicts.{one_verdict}
use Rattle.hook_delivery.proofs.laws.one_verdict.Goals as goal

-- whichever heads are passed over, the same one decides
pub returns : goal.returns
returns c = one_verdict
