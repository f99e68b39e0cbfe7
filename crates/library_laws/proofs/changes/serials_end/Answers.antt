use Rattle.library_laws.proofs.ChangeFacts.{serials_end}
use Rattle.library_laws.proofs.changes.serials_end.Goals as goal

pub returns : goal.returns
returns c = serials_end
