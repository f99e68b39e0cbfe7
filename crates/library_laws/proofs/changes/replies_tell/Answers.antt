use Rattle.library_laws.proofs.ReplyLemmas.{replies_tell}
use Rattle.library_laws.proofs.changes.replies_tell.Goals as goal

pub returns : goal.returns
returns c = replies_tell
