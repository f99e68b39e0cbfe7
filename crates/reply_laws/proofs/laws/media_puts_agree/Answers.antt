use Rattle.reply_laws.proofs.MediaPuts.{media_asks_are_media, media_puts_ask}
use Rattle.reply_laws.proofs.laws.media_puts_agree.Goals as goal

pub returns : goal.returns
returns c = record { asks = media_asks_are_media; puts = media_puts_ask }
