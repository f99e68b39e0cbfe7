use Rattle.library_laws.proofs.SortedLemmas.{lists_are_told}
use Rattle.library_laws.proofs.lists.lists_are_told.Goals as goal

pub returns : goal.returns
returns c = lists_are_told
