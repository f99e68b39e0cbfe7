use Rattle.std.proofs.Common.{rules, ◌≡◌, ◌+◌, length, subst, sym}
use Rattle.shared_tree.specs.Pairs.{IsRising}
use Rattle.shared_tree.specs.Within.Walks.{Walked}
use Rattle.shared_tree.specs.Pairs.{values_of}
use Rattle.shared_tree.proofs.Forks.{at_fork, around_fork, counted}
use Rattle.shared_tree.proofs.Looked.{told}
use Rattle.shared_tree.proofs.Walked.{walked_on, up_to_on_left, up_to_on_right}
use Rattle.shared_tree.proofs.tree.Tree.+append_up_to.Goals as goal

-- each side is in order and smaller
pub append_up_to-requires : goal.append_up_to-requires
append_up_to-requires g t c κs within =
    let f = at_fork c.self.view_is c.self.invariant c.in-Some.is c.deref-fork.ensures in
    let w = around_fork f c.requires.rising in
    let rising : IsRising c.deref-fork.result.now.left.0 = w.left in
    let n : length c.args.self.now.0 ≡ length c.deref-fork.result.now.left.0 + length c.deref-fork.result.now.right.0 + 1 = counted f in
    search rules

pub append_up_to-behind-requires : goal.append_up_to-behind-requires
append_up_to-behind-requires g t c κs within =
    let f = at_fork c.self.view_is c.self.invariant c.in-Some.is c.deref-fork.ensures in
    let w = around_fork f c.requires.rising in
    let rising : IsRising c.deref-fork.result.now.right.0 = w.right in
    let n : length c.args.self.now.0 ≡ length c.deref-fork.result.now.left.0 + length c.deref-fork.result.now.right.0 + 1 = counted f in
    search rules

-- the node is above the key
pub returns-then-is_less-clause-walked : goal.returns-then-is_less-clause-walked
returns-then-is_less-clause-walked g t c =
    let f = at_fork c.self.view_is c.self.invariant c.in-Some.is c.deref-fork.ensures in
    let e = up_to_on_left f c.requires.rising c.args.key.now (told c.is_less.ensures c.if-is_less.true) in
    rw e c.append_up_to.ensures.walked

-- the right side, the node's value and the left side
pub returns-clause-walked : goal.returns-clause-walked
returns-clause-walked g t c =
    let f = at_fork c.self.view_is c.self.invariant c.in-Some.is c.deref-fork.ensures in
    let whole = walked_on _ _ _ _ _ _ _ _ (c.deref-fork.result.now.key, c.deref-fork.result.now.value.value) _ _ c.append_up_to-behind.ensures.walked
    c.if-behind-eq0.false c.as_ref.ensures c.append.ensures.values c.append_all_back.ensures.walked in
    subst (λ ps. Walked (values_of c.args.out.now.items) (values_of c.append_all_back.new.out.items) c.args.room c.append_all_back.result ps)
    (sym (up_to_on_right f c.requires.rising c.args.key.now (told c.is_less.ensures c.if-is_less.false))) whole
