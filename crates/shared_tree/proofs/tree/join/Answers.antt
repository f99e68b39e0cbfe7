use Rattle.std.proofs.Common.{◌≤◌, ◌*◌, arith}
use Rattle.shared_tree.proofs.Heights.{low}
use Rattle.shared_tree.proofs.tree.join.Goals as goal

-- a tree of at most 2 ^ 130 pairs is at most 260 high
pub overflow_add-height : goal.overflow_add-height
overflow_add-height g c =
    let l : c.args.left.1 ≤ 2 * 130 = low 130 _ _ c.tell_filled.ensures (omega (arith, c.requires.few)) in
    let r : c.args.right.1 ≤ 2 * 130 = low 130 _ _ c.tell_filled-2.ensures (omega (arith, c.requires.few)) in
    grind (arith, c.max-height.ensures, c.height.ensures, c.height-2.ensures)
