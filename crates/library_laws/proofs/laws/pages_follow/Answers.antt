use Rattle.library_laws.proofs.ListsFollow.{pages_follow}
use Rattle.library_laws.proofs.laws.pages_follow.Goals as goal

pub returns : goal.returns
returns c = pages_follow
