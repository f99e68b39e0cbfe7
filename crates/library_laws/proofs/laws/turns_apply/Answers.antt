use Rattle.library_laws.proofs.AppliesLemmas.{turns_apply}
use Rattle.library_laws.proofs.laws.turns_apply.Goals as goal

pub returns : goal.returns
returns c = turns_apply
