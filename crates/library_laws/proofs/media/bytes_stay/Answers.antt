use Rattle.library_laws.proofs.MediaKept.{bytes_stay}
use Rattle.library_laws.proofs.media.bytes_stay.Goals as goal

pub returns : goal.returns
returns c = bytes_stay
