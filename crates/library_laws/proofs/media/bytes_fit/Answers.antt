use Rattle.library_laws.proofs.MediaKept.{bytes_fit}
use Rattle.library_laws.proofs.media.bytes_fit.Goals as goal

pub returns : goal.returns
returns c = bytes_fit
