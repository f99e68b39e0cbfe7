use Rattle.library_laws.proofs.AnswerLemmas.{answers_allowed}
use Rattle.library_laws.proofs.laws.answers_are_allowed.Goals as goal

pub returns : goal.returns
returns c = answers_allowed
