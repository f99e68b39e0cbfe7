-- The response to a fault of the wire is the one that was made for it.
use Rattle.std.proofs.Common.{◌≡◌, ◌∙◌, ℕ, List, ap}
use Rattle.http_wire.specs.Steps.{wire_refusal}
use Rattle.http_wire.specs.declared.framing.WireFault.{WireFault}
use Rattle.media_rows.specs.declared.reply.Reply.TheVariants as replies
use Rattle.tams_http.specs.Answered.{response_to}
use Rattle.tams_machine.specs.Requests.{wire_response}
use Rattle.tams_answers.specs.Within.{ending_context}

-- a response that is made for the fault, by a store without a request
pub made_is : (base : List ℕ) (fault : WireFault) (store : ℕ) (text : List ℕ) → store ≡ 0
    → text ≡ response_to (ending_context store base) (replies.Refused (wire_refusal fault)) → text ≡ wire_response base fault
made_is base fault store text none is = is ∙ ap (λ (s : ℕ). response_to (ending_context s base) (replies.Refused (wire_refusal fault))) none
