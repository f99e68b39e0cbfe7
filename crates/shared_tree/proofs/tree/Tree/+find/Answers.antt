use Rattle.std.proofs.Common.{rules, ◌≡◌, ◌+◌, length, ap, sym, ◌∙◌, Some}
use Rattle.shared_tree.specs.Pairs.{IsRising}
use Rattle.shared_tree.proofs.Forks.{at_fork, around_fork, counted}
use Rattle.shared_tree.proofs.Looked.{found_left, found_right, found_here}
use Rattle.shared_tree.proofs.tree.Tree.+find.Goals as goal

-- each side is in order and smaller
pub find-requires : goal.find-requires
find-requires g t c κs within =
    let f = at_fork c.self.view_is c.self.invariant c.in-Some.is c.deref-fork.ensures in
    let w = around_fork f c.requires.rising in
    let rising : IsRising c.deref-fork.result.now.left.0 = w.left in
    let n : length c.args.self.now.0 ≡ length c.deref-fork.result.now.left.0 + length c.deref-fork.result.now.right.0 + 1 = counted f in
    search rules

pub find-requires-in-Greater : goal.find-requires-in-Greater
find-requires-in-Greater g t c κs within =
    let f = at_fork c.self.view_is c.self.invariant c.in-Some.is c.deref-fork.ensures in
    let w = around_fork f c.requires.rising in
    let rising : IsRising c.deref-fork.result.now.right.0 = w.right in
    let n : length c.args.self.now.0 ≡ length c.deref-fork.result.now.left.0 + length c.deref-fork.result.now.right.0 + 1 = counted f in
    search rules

-- what is found on a side, or at the node
pub returns-in-Less-clause-value : goal.returns-in-Less-clause-value
returns-in-Less-clause-value g t c =
    let f = at_fork c.self.view_is c.self.invariant c.in-Some.is c.deref-fork.ensures in
    c.find.ensures.value ∙ sym (found_left f c.requires.rising c.args.key.now c.in-Less.ensures)

pub returns-in-Greater-clause-value : goal.returns-in-Greater-clause-value
returns-in-Greater-clause-value g t c =
    let f = at_fork c.self.view_is c.self.invariant c.in-Some.is c.deref-fork.ensures in
    c.find-in-Greater.ensures.value ∙ sym (found_right f c.requires.rising c.args.key.now c.in-Greater.ensures)

pub returns-in-Equal-clause-value : goal.returns-in-Equal-clause-value
returns-in-Equal-clause-value g t c =
    let f = at_fork c.self.view_is c.self.invariant c.in-Some.is c.deref-fork.ensures in
    ap Some c.as_ref.ensures ∙ sym (found_here f c.requires.rising c.args.key.now c.in-Equal.ensures)
