use Rattle.std.proofs.Common.{rules, ◌≡◌, ◌+◌, length, ap, sym, ◌∙◌, FitsSigned}
use Rattle.std.proofs.lemmas.Int.{to_z-of_z}
use mir.Syntax.{w128}
use Rattle.shared_tree.specs.Pairs.{IsRising, last}
use Rattle.shared_tree.proofs.Forks.{at_fork, around_fork, counted}
use Rattle.shared_tree.proofs.Looked.{below_on_left, last_below_right, told, some_behind, none_behind}
use Rattle.shared_tree.proofs.tree.Tree.+last_below.Goals as goal

-- each side is in order and smaller
pub last_below-requires : goal.last_below-requires
last_below-requires g t c κs within =
    let f = at_fork c.self.view_is c.self.invariant c.in-Some.is c.deref-fork.ensures in
    let w = around_fork f c.requires.rising in
    let rising : IsRising c.deref-fork.result.now.left.0 = w.left in
    let n : length c.args.self.now.0 ≡ length c.deref-fork.result.now.left.0 + length c.deref-fork.result.now.right.0 + 1 = counted f in
    search rules

pub last_below-requires-2 : goal.last_below-requires-2
last_below-requires-2 g t c κs within =
    let f = at_fork c.self.view_is c.self.invariant c.in-Some.is c.deref-fork.ensures in
    let w = around_fork f c.requires.rising in
    let rising : IsRising c.deref-fork.result.now.right.0 = w.right in
    let n : length c.args.self.now.0 ≡ length c.deref-fork.result.now.left.0 + length c.deref-fork.result.now.right.0 + 1 = counted f in
    search rules

-- the node and its right side are above the key
pub returns-then-not-is_less-clause-pair : goal.returns-then-not-is_less-clause-pair
returns-then-not-is_less-clause-pair g t c =
    let f = at_fork c.self.view_is c.self.invariant c.in-Some.is c.deref-fork.ensures in
    c.last_below.ensures.pair ∙ sym (ap last (below_on_left f c.requires.rising c.args.key.now (told c.is_less.ensures c.if-not-is_less.true)))

-- the last of the right side, or the node's own pair
pub returns-in-Some-last_below-clause-pair : goal.returns-in-Some-last_below-clause-pair
returns-in-Some-last_below-clause-pair g t c =
    let f = at_fork c.self.view_is c.self.invariant c.in-Some.is c.deref-fork.ensures in
    let whole = last_below_right f c.requires.rising c.args.key.now (told c.is_less.ensures c.if-not-is_less.false) in
    some_behind _ _ whole c.in-Some-last_below.ensures.pair

pub returns-in-None-clause-pair : goal.returns-in-None-clause-pair
returns-in-None-clause-pair g t c =
    let f = at_fork c.self.view_is c.self.invariant c.in-Some.is c.deref-fork.ensures in
    let whole = last_below_right f c.requires.rising c.args.key.now (told c.is_less.ensures c.if-not-is_less.false) in
    let fits : FitsSigned w128 c.deref-fork.result.now.key = search rules in
    rw (to_z-of_z w128 c.deref-fork.result.now.key fits, c.as_ref.ensures) (none_behind _ whole c.in-None.ensures.pair)
