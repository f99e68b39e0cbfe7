use Rattle.reference_laws.proofs.References.{references_go}
use Rattle.reference_laws.proofs.references_go.Goals as goal

pub returns : goal.returns
returns c = references_go
