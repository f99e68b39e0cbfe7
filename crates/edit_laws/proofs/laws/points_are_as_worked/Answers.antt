use Rattle.edit_laws.proofs.WorkedEdit.{points_are_as_worked}
use Rattle.edit_laws.proofs.laws.points_are_as_worked.Goals as goal

pub returns-clause-worked : goal.returns-clause-worked
returns-clause-worked c = points_are_as_worked
