-- The refusals of the wire have no texts.
use Rattle.std.proofs.Common.{arith}
use Rattle.reply_laws.specs.Refusals.{WireRefusalsHaveTexts}

pub wire_refusals_have_texts : WireRefusalsHaveTexts
wire_refusals_have_texts fault = grind arith
