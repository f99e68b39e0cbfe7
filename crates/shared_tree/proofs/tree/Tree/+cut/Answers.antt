use Rattle.std.proofs.Common.{rules, ◌≡◌, ◌+◌, length, IfOk, subst, ap}
use Rattle.shared_tree.specs.Pairs.{IsRising}
use Rattle.shared_tree.proofs.Changed.{cut_on_left, cut_on_right, cut_in_place, room_without, room_without_right}
use Rattle.shared_tree.proofs.Forks.{at_fork, around_fork, counted}
use Rattle.shared_tree.proofs.tree.Tree.+cut.Goals as goal

-- each side is in order and smaller
pub cut-requires : goal.cut-requires
cut-requires g t c κs within =
    let f = at_fork c.self.view_is c.self.invariant c.in-Some.is c.deref-fork.ensures in
    let w = around_fork f c.requires.rising in
    let rising : IsRising c.deref-fork.result.now.left.0 = w.left in
    let n : length c.args.self.now.0 ≡ length c.deref-fork.result.now.left.0 + length c.deref-fork.result.now.right.0 + 1 = counted f in
    search rules

pub cut-requires-in-Greater : goal.cut-requires-in-Greater
cut-requires-in-Greater g t c κs within =
    let f = at_fork c.self.view_is c.self.invariant c.in-Some.is c.deref-fork.ensures in
    let w = around_fork f c.requires.rising in
    let rising : IsRising c.deref-fork.result.now.right.0 = w.right in
    let n : length c.args.self.now.0 ≡ length c.deref-fork.result.now.left.0 + length c.deref-fork.result.now.right.0 + 1 = counted f in
    search rules

pub balance-requires-clause-few : goal.balance-requires-clause-few
balance-requires-clause-few g t c =
    let f = at_fork c.self.view_is c.self.invariant c.in-Some.is c.deref-fork.ensures in
    rw c.in_ok-share-in-Less.ensures (room_without _ _ _ _ _ (counted f) c.requires.few c.in_ok-left-in-Less.ensures.pairs)

pub balance-requires-in-Greater-clause-few : goal.balance-requires-in-Greater-clause-few
balance-requires-in-Greater-clause-few g t c =
    let f = at_fork c.self.view_is c.self.invariant c.in-Some.is c.deref-fork.ensures in
    rw c.in_ok-share-in-Greater.ensures (room_without_right _ _ _ _ _ (counted f) c.requires.few c.in_ok-right-in-Greater.ensures.pairs)

-- what is taken out on a side, or at the node
pub returns-in_ok-share-in-Less-clause-pairs : goal.returns-in_ok-share-in-Less-clause-pairs
returns-in_ok-share-in-Less-clause-pairs g t c =
    let f = at_fork c.self.view_is c.self.invariant c.in-Some.is c.deref-fork.ensures in
    let e = cut_on_left f c.requires.rising c.args.key.now _ _ _ c.in-Less.ensures c.in_ok-left-in-Less.ensures.pairs c.in_ok-clone-in-Less.ensures.cases
    (ap (λ t. t.0) c.in_ok-share-in-Less.ensures) in
    subst (λ z. IfOk c.balance.result (λ t. t.0 ≡ z)) e c.balance.ensures.pairs

pub returns-in_ok-clone-in-Greater-clause-pairs : goal.returns-in_ok-clone-in-Greater-clause-pairs
returns-in_ok-clone-in-Greater-clause-pairs g t c =
    let f = at_fork c.self.view_is c.self.invariant c.in-Some.is c.deref-fork.ensures in
    let e = cut_on_right f c.requires.rising c.args.key.now _ _ _ c.in-Greater.ensures (ap (λ t. t.0) c.in_ok-share-in-Greater.ensures)
    c.in_ok-clone-in-Greater.ensures.cases c.in_ok-right-in-Greater.ensures.pairs in
    subst (λ z. IfOk c.balance-in-Greater-2.result (λ t. t.0 ≡ z)) e c.balance-in-Greater-2.ensures.pairs

pub returns-in-Equal-clause-pairs : goal.returns-in-Equal-clause-pairs
returns-in-Equal-clause-pairs g t c =
    let f = at_fork c.self.view_is c.self.invariant c.in-Some.is c.deref-fork.ensures in
    let e = cut_in_place f c.requires.rising c.args.key.now c.in-Equal.ensures in
    subst (λ z. IfOk c.meet.result (λ t. t.0 ≡ z)) e c.meet.ensures.pairs
