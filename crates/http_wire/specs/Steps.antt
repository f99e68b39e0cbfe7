-- The refusals of the wire.
use Rattle.media_rows.specs.declared.refusal.Refusal.{Refusal}
use Rattle.media_rows.specs.declared.refusal.Refusal.TheVariants as refusals
use Rattle.http_wire.specs.declared.framing.WireFault.{WireFault}
use Rattle.http_wire.specs.declared.framing.WireFault.TheVariants.{BadFraming, BadHead, Coding, LengthRequired, TooLarge}

-- the refusal that answers a fault of the wire
abbrev pub wire_refusal : WireFault → Refusal
wire_refusal BadHead = refusals.BadHead
wire_refusal BadFraming = refusals.BadFraming
wire_refusal LengthRequired = refusals.LengthRequired
wire_refusal TooLarge = refusals.TooLarge
wire_refusal Coding = refusals.Coding
