use Rattle.reference_laws.proofs.References.{due_are_same}
use Rattle.reference_laws.proofs.due_are_same.Goals as goal

pub returns : goal.returns
returns c = due_are_same
