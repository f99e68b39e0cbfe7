use Rattle.std.proofs.Common.{rules, ◌≡◌, ◌+◌, length, IfOk, is_some, subst, sym, true, ap, ◌∙◌}
use Rattle.shared_tree.specs.Pairs.{IsRising, value_at}
use Rattle.shared_tree.proofs.Changed.{put_on_left, put_on_right, put_in_place}
use Rattle.shared_tree.proofs.Forks.{at_fork, around_fork, counted}
use Rattle.shared_tree.proofs.Looked.{found_left, found_right}
use Rattle.shared_tree.proofs.tree.Tree.+replace.Goals as goal

-- each side is in order and smaller, and the one in which it is looked for has the key
pub replace-requires : goal.replace-requires
replace-requires g t c κs within =
    let f = at_fork c.self.view_is c.self.invariant c.in-Some.is c.deref-fork.ensures in
    let w = around_fork f c.requires.rising in
    let rising : IsRising c.deref-fork.result.now.left.0 = w.left in
    let held : is_some (value_at c.args.key.now c.deref-fork.result.now.left.0) ≡ true =
    ap is_some (sym (found_left f c.requires.rising c.args.key.now c.in-Less.ensures)) ∙ c.requires.held in
    let n : length c.args.self.now.0 ≡ length c.deref-fork.result.now.left.0 + length c.deref-fork.result.now.right.0 + 1 = counted f in
    search rules

pub replace-requires-in-Greater : goal.replace-requires-in-Greater
replace-requires-in-Greater g t c κs within =
    let f = at_fork c.self.view_is c.self.invariant c.in-Some.is c.deref-fork.ensures in
    let w = around_fork f c.requires.rising in
    let rising : IsRising c.deref-fork.result.now.right.0 = w.right in
    let held : is_some (value_at c.args.key.now c.deref-fork.result.now.right.0) ≡ true =
    ap is_some (sym (found_right f c.requires.rising c.args.key.now c.in-Greater.ensures)) ∙ c.requires.held in
    let n : length c.args.self.now.0 ≡ length c.deref-fork.result.now.left.0 + length c.deref-fork.result.now.right.0 + 1 = counted f in
    search rules

-- what is put on a side, or in the place of the node's own pair
pub returns-in_ok-other-in-Less-clause-pairs : goal.returns-in_ok-other-in-Less-clause-pairs
returns-in_ok-other-in-Less-clause-pairs g t c =
    let f = at_fork c.self.view_is c.self.invariant c.in-Some.is c.deref-fork.ensures in
    let e = put_on_left f c.requires.rising c.args.key.now c.args.value.value _ _ _ c.in-Less.ensures c.in_ok-left-in-Less.ensures.pairs
    c.in_ok-own-in-Less.ensures.cases (ap (λ t. t.0) c.in_ok-other-in-Less.ensures) in
    subst (λ z. IfOk c.node.result (λ t. t.0 ≡ z)) e c.node.ensures.pairs

pub returns-in_ok-other-in-Greater-clause-pairs : goal.returns-in_ok-other-in-Greater-clause-pairs
returns-in_ok-other-in-Greater-clause-pairs g t c =
    let f = at_fork c.self.view_is c.self.invariant c.in-Some.is c.deref-fork.ensures in
    let e = put_on_right f c.requires.rising c.args.key.now c.args.value.value _ _ _ c.in-Greater.ensures
    (ap (λ t. t.0) c.in_ok-other-in-Greater.ensures) c.in_ok-own-in-Greater.ensures.cases c.in_ok-right-in-Greater.ensures.pairs in
    subst (λ z. IfOk c.node-in-Greater.result (λ t. t.0 ≡ z)) e c.node-in-Greater.ensures.pairs

pub returns-in_ok-right-in-Equal-clause-pairs : goal.returns-in_ok-right-in-Equal-clause-pairs
returns-in_ok-right-in-Equal-clause-pairs g t c =
    let f = at_fork c.self.view_is c.self.invariant c.in-Some.is c.deref-fork.ensures in
    let e = put_in_place f c.requires.rising c.args.key.now c.args.value.value _ _ c.in-Equal.ensures (ap (λ t. t.0) c.in_ok-left-in-Equal.ensures)
    (ap (λ t. t.0) c.in_ok-right-in-Equal.ensures) in
    subst (λ z. IfOk c.node-in-Equal.result (λ t. t.0 ≡ z)) e c.node-in-Equal.ensures.pairs
