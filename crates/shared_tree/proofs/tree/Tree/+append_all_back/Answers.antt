use Rattle.std.proofs.Common.{subst, sym}
use Rattle.shared_tree.specs.Within.Walks.{Walked}
use Rattle.shared_tree.specs.Pairs.{values_of}
use Rattle.shared_tree.proofs.Forks.{at_fork}
use Rattle.shared_tree.proofs.Walked.{walked_on, all_back}
use Rattle.shared_tree.proofs.tree.Tree.+append_all_back.Goals as goal

-- the right side, the node's value and the left side
pub returns-clause-walked : goal.returns-clause-walked
returns-clause-walked g t c =
    let f = at_fork c.self.view_is c.self.invariant c.in-Some.is c.deref-fork.ensures in
    let whole = walked_on _ _ _ _ _ _ _ _ (c.deref-fork.result.now.key, c.deref-fork.result.now.value.value) _ _ c.append_all_back-behind.ensures.walked
    c.if-behind-eq0.false c.as_ref.ensures c.append.ensures.values c.append_all_back.ensures.walked in
    subst (λ ps. Walked (values_of c.args.out.now.items) (values_of c.append_all_back.new.out.items) c.args.room c.append_all_back.result ps) (sym (all_back f))
    whole
