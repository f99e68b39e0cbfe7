use Rattle.reference_laws.proofs.References.{objects_come}
use Rattle.reference_laws.proofs.objects_come.Goals as goal

pub returns : goal.returns
returns c = objects_come
