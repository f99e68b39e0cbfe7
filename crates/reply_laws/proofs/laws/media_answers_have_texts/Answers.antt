use Rattle.reply_laws.proofs.MediaAnswered.{media_answers_have_texts}
use Rattle.reply_laws.proofs.laws.media_answers_have_texts.Goals as goal

pub returns : goal.returns
returns c = media_answers_have_texts
