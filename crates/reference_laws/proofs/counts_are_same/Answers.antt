use Rattle.reference_laws.proofs.Naming.{counts_are_same}
use Rattle.reference_laws.proofs.counts_are_same.Goals as goal

pub returns : goal.returns
returns c = counts_are_same
