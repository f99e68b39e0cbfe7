use Rattle.std.proofs.Common.{◌∙◌, sym, ap}
use Rattle.tams_machine.specs.Requests.{wire_response}
use Rattle.tams_answers.proofs.wire.WireResponses.of.Goals as goal

pub returns-in-BadHead : goal.returns-in-BadHead
returns-in-BadHead c = λ base are. c.bytes.ensures ∙ are.bad_head ∙ ap (wire_response base) (sym c.in-BadHead.is)

pub returns-in-BadFraming : goal.returns-in-BadFraming
returns-in-BadFraming c = λ base are. c.bytes-in-BadFraming.ensures ∙ are.bad_framing ∙ ap (wire_response base) (sym c.in-BadFraming.is)

pub returns-in-LengthRequired : goal.returns-in-LengthRequired
returns-in-LengthRequired c = λ base are. c.bytes-in-LengthRequired.ensures ∙ are.length_required ∙ ap (wire_response base) (sym c.in-LengthRequired.is)

pub returns-in-TooLarge : goal.returns-in-TooLarge
returns-in-TooLarge c = λ base are. c.bytes-in-TooLarge.ensures ∙ are.too_large ∙ ap (wire_response base) (sym c.in-TooLarge.is)

pub returns-in-Coding : goal.returns-in-Coding
returns-in-Coding c = λ base are. c.bytes-in-Coding.ensures ∙ are.coding ∙ ap (wire_response base) (sym c.in-Coding.is)
