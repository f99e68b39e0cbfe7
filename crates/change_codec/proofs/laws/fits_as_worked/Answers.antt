use Rattle.change_codec.proofs.Fitting.{worked}
use Rattle.change_codec.proofs.laws.fits_as_worked.Goals as goal

pub returns : goal.returns
returns c = worked
