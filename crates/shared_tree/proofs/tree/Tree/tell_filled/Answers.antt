use Rattle.std.proofs.Common.{arith}
use Rattle.shared_tree.specs.Within.Heights.{least}
use Rattle.shared_tree.proofs.Forks.{at_empty}
use Rattle.shared_tree.proofs.tree.Tree.tell_filled.Goals as goal

-- a tree of height 0 asks for no pair
pub returns-in-None : goal.returns-in-None
unfolding least
returns-in-None g c = rw (at_empty c.self.view_is c.in-None.is) (omega arith)
