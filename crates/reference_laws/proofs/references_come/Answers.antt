use Rattle.reference_laws.proofs.References.{references_come}
use Rattle.reference_laws.proofs.references_come.Goals as goal

pub returns : goal.returns
returns c = references_come
