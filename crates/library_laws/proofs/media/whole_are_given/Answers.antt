use Rattle.library_laws.proofs.MediaGiven.{whole_are_given}
use Rattle.library_laws.proofs.media.whole_are_given.Goals as goal

pub returns : goal.returns
returns c = whole_are_given
