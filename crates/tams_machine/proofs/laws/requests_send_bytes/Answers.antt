use Rattle.tams_machine.proofs.Sending.{of_request}
use Rattle.tams_machine.proofs.laws.requests_send_bytes.Goals as goal

pub returns : goal.returns
returns c = λ store method target body. (of_request store method target body).is
