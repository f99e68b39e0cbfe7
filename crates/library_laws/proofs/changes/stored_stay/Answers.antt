use Rattle.library_laws.proofs.ObjectsCome.{stored_stay}
use Rattle.library_laws.proofs.changes.stored_stay.Goals as goal

pub returns : goal.returns
returns c = stored_stay
