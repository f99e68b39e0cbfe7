use Rattle.shared_tree.proofs.Heights.{filled_joined}
use Rattle.shared_tree.proofs.tree.node.Goals as goal

-- the sides have as many pairs as their heights ask for
pub invariant_of-result : goal.invariant_of-result
invariant_of-result g c =
    rw c.in-Ok.ensures.ok (record {
      height = c.requires.height;
      level = c.requires.level;
      filled = filled_joined _ c.args.left.0 c.args.right.0 _ c.args.left.1 c.args.right.1 c.requires.level c.tell_filled.ensures c.tell_filled-2.ensures
          c.requires.height;
    })
