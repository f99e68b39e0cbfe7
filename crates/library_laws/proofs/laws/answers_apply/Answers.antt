use Rattle.library_laws.proofs.AppliesLemmas.{answers_apply}
use Rattle.library_laws.proofs.laws.answers_apply.Goals as goal

pub returns : goal.returns
returns c = answers_apply
