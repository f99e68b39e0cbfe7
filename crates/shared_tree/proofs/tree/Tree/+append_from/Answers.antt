use Rattle.std.proofs.Common.{rules, ◌≡◌, ◌+◌, length, subst, sym}
use Rattle.shared_tree.specs.Pairs.{IsRising}
use Rattle.shared_tree.specs.Within.Walks.{Walked}
use Rattle.shared_tree.specs.Pairs.{values_of}
use Rattle.shared_tree.proofs.Forks.{at_fork, around_fork, counted}
use Rattle.shared_tree.proofs.Looked.{told}
use Rattle.shared_tree.proofs.Walked.{walked_on, from_on_right, from_on_left}
use Rattle.shared_tree.proofs.tree.Tree.+append_from.Goals as goal

-- each side is in order and smaller
pub append_from-requires : goal.append_from-requires
append_from-requires g t c κs within =
    let f = at_fork c.self.view_is c.self.invariant c.in-Some.is c.deref-fork.ensures in
    let w = around_fork f c.requires.rising in
    let rising : IsRising c.deref-fork.result.now.right.0 = w.right in
    let n : length c.args.self.now.0 ≡ length c.deref-fork.result.now.left.0 + length c.deref-fork.result.now.right.0 + 1 = counted f in
    search rules

pub append_from-behind-requires : goal.append_from-behind-requires
append_from-behind-requires g t c κs within =
    let f = at_fork c.self.view_is c.self.invariant c.in-Some.is c.deref-fork.ensures in
    let w = around_fork f c.requires.rising in
    let rising : IsRising c.deref-fork.result.now.left.0 = w.left in
    let n : length c.args.self.now.0 ≡ length c.deref-fork.result.now.left.0 + length c.deref-fork.result.now.right.0 + 1 = counted f in
    search rules

-- the node is below the key
pub returns-then-is_less-clause-walked : goal.returns-then-is_less-clause-walked
returns-then-is_less-clause-walked g t c =
    let f = at_fork c.self.view_is c.self.invariant c.in-Some.is c.deref-fork.ensures in
    let e = from_on_right f c.requires.rising c.args.key.now (told c.is_less.ensures c.if-is_less.true) in
    rw e c.append_from.ensures.walked

-- the left side, the node's value and the right side
pub returns-clause-walked : goal.returns-clause-walked
returns-clause-walked g t c =
    let f = at_fork c.self.view_is c.self.invariant c.in-Some.is c.deref-fork.ensures in
    let whole = walked_on _ _ _ _ _ _ _ _ (c.deref-fork.result.now.key, c.deref-fork.result.now.value.value) _ _ c.append_from-behind.ensures.walked
    c.if-behind-eq0.false c.as_ref.ensures c.append.ensures.values c.append_all.ensures.walked in
    subst (λ ps. Walked (values_of c.args.out.now.items) (values_of c.append_all.new.out.items) c.args.room c.append_all.result ps)
    (sym (from_on_left f c.requires.rising c.args.key.now (told c.is_less.ensures c.if-is_less.false))) whole
