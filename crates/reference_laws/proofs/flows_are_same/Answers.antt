use Rattle.reference_laws.proofs.Naming.{flows_are_same}
use Rattle.reference_laws.proofs.flows_are_same.Goals as goal

pub returns : goal.returns
returns c = flows_are_same
