use Rattle.reference_laws.proofs.References.{objects_change}
use Rattle.reference_laws.proofs.objects_change.Goals as goal

pub returns : goal.returns
returns c = objects_change
