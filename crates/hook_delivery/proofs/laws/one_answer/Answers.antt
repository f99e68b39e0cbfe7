use Rattle.hook_delivery.proofs.OneAnswer.{one_answer}
use Rattle.hook_delivery.proofs.laws.one_answer.Goals as goal

-- no call failed on it or one did, and its bytes have one verdict
pub returns : goal.returns
returns c = one_answer
