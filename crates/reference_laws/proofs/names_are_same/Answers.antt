use Rattle.reference_laws.proofs.References.{names_are_same}
use Rattle.reference_laws.proofs.names_are_same.Goals as goal

pub returns : goal.returns
returns c = names_are_same
