use Rattle.reply_laws.proofs.Answered.{answers_have_texts}
use Rattle.reply_laws.proofs.MediaAnswered.{fitted_have_texts}
use Rattle.reply_laws.proofs.laws.answers_have_texts.Goals as goal

pub returns : goal.returns
returns c = record { answers = answers_have_texts; fitted = fitted_have_texts }
