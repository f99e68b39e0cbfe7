use Rattle.library_laws.proofs.ChangesKept.{good_is_tested}
use Rattle.library_laws.proofs.laws.good_is_tested.Goals as goal

pub returns : goal.returns
returns c = good_is_tested
