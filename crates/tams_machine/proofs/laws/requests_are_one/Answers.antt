use Rattle.tams_machine.proofs.Fronts.{requests_are_one}
use Rattle.tams_machine.proofs.laws.requests_are_one.Goals as goal

pub returns : goal.returns
returns c = requests_are_one
