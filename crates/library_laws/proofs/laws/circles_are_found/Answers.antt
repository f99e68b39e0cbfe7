use Rattle.library_laws.proofs.CircleLemmas.{collects_itself_is}
use Rattle.library_laws.proofs.laws.circles_are_found.Goals as goal

pub returns : goal.returns
returns c = collects_itself_is
