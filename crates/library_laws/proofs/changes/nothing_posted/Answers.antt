use Rattle.library_laws.proofs.ChangeFacts.{nothing_posted}
use Rattle.library_laws.proofs.changes.nothing_posted.Goals as goal

pub returns : goal.returns
returns c = nothing_posted
