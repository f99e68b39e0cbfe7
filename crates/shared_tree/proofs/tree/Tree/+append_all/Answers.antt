use Rattle.std.proofs.Common.{subst, sym}
use Rattle.shared_tree.specs.Within.Walks.{Walked}
use Rattle.shared_tree.specs.Pairs.{values_of}
use Rattle.shared_tree.proofs.Forks.{at_fork}
use Rattle.shared_tree.proofs.Walked.{walked_on}
use Rattle.shared_tree.proofs.tree.Tree.+append_all.Goals as goal

-- the left side, the node's value and the right side
pub returns-clause-walked : goal.returns-clause-walked
returns-clause-walked g t c =
    let f = at_fork c.self.view_is c.self.invariant c.in-Some.is c.deref-fork.ensures in
    let whole = walked_on _ _ _ _ _ _ _ _ (c.deref-fork.result.now.key, c.deref-fork.result.now.value.value) _ _ c.append_all-behind.ensures.walked
    c.if-behind-eq0.false c.as_ref.ensures c.append.ensures.values c.append_all.ensures.walked in
    subst (λ ps. Walked (values_of c.args.out.now.items) (values_of c.append_all.new.out.items) c.args.room c.append_all.result ps) (sym f.pairs) whole
