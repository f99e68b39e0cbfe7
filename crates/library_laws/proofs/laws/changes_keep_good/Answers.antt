use Rattle.library_laws.proofs.ChangesKept.{changes_keep_good}
use Rattle.library_laws.proofs.laws.changes_keep_good.Goals as goal

pub returns : goal.returns
returns c = changes_keep_good
