use Rattle.media_book.proofs.Restored.{media_are_good}
use Rattle.media_book.proofs.restores.media_are_good.Goals as goal

pub returns : goal.returns
returns c = media_are_good
