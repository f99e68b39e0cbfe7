use Rattle.library_laws.proofs.ChangesKept.{changes_apply}
use Rattle.library_laws.proofs.laws.changes_apply.Goals as goal

pub returns : goal.returns
returns c = changes_apply
