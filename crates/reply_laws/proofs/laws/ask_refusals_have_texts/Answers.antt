use Rattle.reply_laws.proofs.Requests.{ask_refusals_have_texts}
use Rattle.reply_laws.proofs.Wire.{wire_refusals_have_texts}
use Rattle.reply_laws.proofs.laws.ask_refusals_have_texts.Goals as goal

pub returns : goal.returns
returns c = record { asks = ask_refusals_have_texts; wire = wire_refusals_have_texts }
