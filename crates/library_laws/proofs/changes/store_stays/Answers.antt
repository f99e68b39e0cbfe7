use Rattle.library_laws.proofs.ChangeFacts.{store_stays}
use Rattle.library_laws.proofs.changes.store_stays.Goals as goal

pub returns : goal.returns
returns c = store_stays
