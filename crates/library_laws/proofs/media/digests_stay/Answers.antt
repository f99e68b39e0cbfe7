use Rattle.library_laws.proofs.MediaKept.{digests_stay}
use Rattle.library_laws.proofs.media.digests_stay.Goals as goal

pub returns : goal.returns
returns c = digests_stay
