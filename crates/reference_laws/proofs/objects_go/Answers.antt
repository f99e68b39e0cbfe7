use Rattle.reference_laws.proofs.References.{objects_go}
use Rattle.reference_laws.proofs.objects_go.Goals as goal

pub returns : goal.returns
returns c = objects_go
