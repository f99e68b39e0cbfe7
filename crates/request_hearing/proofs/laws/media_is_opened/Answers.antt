use Rattle.request_hearing.proofs.Theorems.{media_opened}
use Rattle.request_hearing.proofs.laws.media_is_opened.Goals as goal

pub returns : goal.returns
returns c = media_opened
