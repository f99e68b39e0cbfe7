-- The responses to the five refusals of the wire.
use Rattle.std.specs.Prelude.{◌≡◌, ℕ, List}
use Rattle.http_wire.specs.declared.framing.WireFault.TheVariants.{BadFraming, BadHead, Coding, LengthRequired, TooLarge}
use Rattle.tams_machine.specs.Requests.{wire_response}
use Rattle.tams_answers.specs.declared.wire.WireResponses.{WireResponses}

-- the responses of a store whose addresses begin with this base
pub record AreResponses (base : List ℕ) (responses : WireResponses) : Type 0 where
  pub bad_head : responses.bad_head ≡ wire_response base BadHead
  pub bad_framing : responses.bad_framing ≡ wire_response base BadFraming
  pub length_required : responses.length_required ≡ wire_response base LengthRequired
  pub too_large : responses.too_large ≡ wire_response base TooLarge
  pub coding : responses.coding ≡ wire_response base Coding
