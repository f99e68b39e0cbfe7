-- What is known of a tree whose root was looked at.
use Rattle.std.proofs.Common.{◌≡◌, ℕ, ℤ, ◌+◌, List, [], ◌∷◌, length, Option, Some, None, refl, sym, ap, subst, ◌∙◌, arith, length-append}
use Rattle.std.specs.declared.rc.Rc.{Rc}
use Rattle.shared_tree.specs.declared.tree.Fork.{Fork}
use Rattle.shared_tree.specs.Within.Forks.{pairs_of, seen_root, IsLevel, IsBalancedRoot}
use Rattle.shared_tree.specs.Pairs.{IsRising}
use Rattle.shared_tree.proofs.Rising.{Around, around}

-- d is what a tree with the node f at its root is seen as
pub record AtFork {V : Type 0} (d : List (ℤ × V) × ℕ) (f : Fork V) : Type 0 where
  pub pairs : d.0 ≡ pairs_of f
  pub height : d.1 ≡ f.height
  pub level : IsLevel f

module _ {V Z : Type 0} where
  at_fork_same : (root : Option (Rc (Fork V) Z)) (fork : Rc (Fork V) Z) → IsBalancedRoot root → root ≡ Some fork → AtFork (seen_root root) fork.value
  at_fork_same root fork level e =
      rw e (record { pairs = refl; height = refl; level = subst IsBalancedRoot e level })

  pub at_fork : {root : Option (Rc (Fork V) Z)} {d : List (ℤ × V) × ℕ} {fork : Rc (Fork V) Z} {f : Fork V} → seen_root root ≡ d → IsBalancedRoot root
      → root ≡ Some fork → f ≡ fork.value → AtFork d f
  at_fork {root} {d} {fork} {f} view level e same =
      rw (sym view, same) (at_fork_same root fork level e)

  -- an empty tree
  pub at_empty : {root : Option (Rc (Fork V) Z)} {d : List (ℤ × V) × ℕ} → seen_root root ≡ d → root ≡ None → d ≡ ([], 0)
  at_empty {root} {d} view e = sym view ∙ ap seen_root e

module _ {V : Type 0} where
  pub around_fork : {d : List (ℤ × V) × ℕ} {f : Fork V} → AtFork d f → IsRising d.0 → Around f.left.0 (f.key, f.value.value) f.right.0
  around_fork {d} {f} at rising = around f.left.0 (f.key, f.value.value) f.right.0 (subst IsRising at.pairs rising)

  -- a node has one pair more than its sides
  pub counted : {d : List (ℤ × V) × ℕ} {f : Fork V} → AtFork d f → length d.0 ≡ length f.left.0 + length f.right.0 + 1
  counted {d} {f} at = grind (arith, at.pairs, length-append f.left.0 ((f.key, f.value.value) ∷ f.right.0))
