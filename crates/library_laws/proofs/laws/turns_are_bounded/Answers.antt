use Rattle.library_laws.proofs.BoundLemmas.{turns_bounded}
use Rattle.library_laws.proofs.laws.turns_are_bounded.Goals as goal

pub returns : goal.returns
returns c = turns_bounded
