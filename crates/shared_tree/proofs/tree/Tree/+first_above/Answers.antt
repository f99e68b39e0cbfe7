use Rattle.std.proofs.Common.{rules, ◌≡◌, ◌+◌, length, ap, sym, ◌∙◌}
use Rattle.shared_tree.specs.Pairs.{IsRising, first}
use Rattle.shared_tree.proofs.Forks.{at_fork, around_fork, counted}
use Rattle.shared_tree.proofs.Looked.{above_on_right, told}
use Rattle.shared_tree.proofs.tree.Tree.+first_above.Goals as goal

-- each side is in order and smaller
pub first_above-requires : goal.first_above-requires
first_above-requires g t c κs within =
    let f = at_fork c.self.view_is c.self.invariant c.in-Some.is c.deref-fork.ensures in
    let w = around_fork f c.requires.rising in
    let rising : IsRising c.deref-fork.result.now.right.0 = w.right in
    let n : length c.args.self.now.0 ≡ length c.deref-fork.result.now.left.0 + length c.deref-fork.result.now.right.0 + 1 = counted f in
    search rules

pub first_above-requires-2 : goal.first_above-requires-2
first_above-requires-2 g t c κs within =
    let f = at_fork c.self.view_is c.self.invariant c.in-Some.is c.deref-fork.ensures in
    let w = around_fork f c.requires.rising in
    let rising : IsRising c.deref-fork.result.now.left.0 = w.left in
    let n : length c.args.self.now.0 ≡ length c.deref-fork.result.now.left.0 + length c.deref-fork.result.now.right.0 + 1 = counted f in
    search rules

-- the node and its left side are not above the key
pub returns-then-not-is_less-clause-pair : goal.returns-then-not-is_less-clause-pair
returns-then-not-is_less-clause-pair g t c =
    let f = at_fork c.self.view_is c.self.invariant c.in-Some.is c.deref-fork.ensures in
    c.first_above.ensures.pair ∙ sym (ap first (above_on_right f c.requires.rising c.args.key.now (told c.is_less.ensures c.if-not-is_less.true)))
