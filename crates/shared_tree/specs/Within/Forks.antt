-- What a tree and a version are seen as, and what holds of them.
use Rattle.std.specs.Prelude.{◌≡◌, ℕ, ℤ, ◌+◌, ◌≤◌, max, List, [], ◌∷◌, ◌++◌, length, Option, Some, None, ⊤}
use Rattle.std.specs.declared.rc.Rc.{Rc}
use Rattle.shared_tree.specs.declared.tree.Fork.{Fork}
use Rattle.shared_tree.specs.declared.tree.Tree.TheInside.{Inside}
use Rattle.shared_tree.specs.declared.changes.Taken.{Taken}
use Rattle.shared_tree.specs.Within.Heights.{DifferByAtMost, least}

-- the pairs of a node: those of its left side, its own, and those of its right side
abbrev pub pairs_of : {V : Type 0} → Fork V → List (ℤ × V)
pairs_of fork = fork.left.0 ++ (fork.key, fork.value.value) ∷ fork.right.0

-- the pairs and the height below a root
abbrev pub seen_root : {V Z : Type 0} → Option (Rc (Fork V) Z) → List (ℤ × V) × ℕ
seen_root None = ([], 0)
seen_root (Some fork) = (pairs_of fork.value, fork.value.height)

-- what a tree is seen as
abbrev pub seen : {V : Type 0} → Inside V → List (ℤ × V) × ℕ
seen tree = seen_root tree.root

-- A node's height is right, its sides differ by at most one, and it has as many pairs as its
-- height asks for.
pub record IsLevel {V : Type 0} (fork : Fork V) : Type 0 where
  pub height : fork.height ≡ max fork.left.1 fork.right.1 + 1
  pub level : DifferByAtMost 1 fork.left.1 fork.right.1
  pub filled : least fork.height ≤ length (pairs_of fork) + 1

-- so is the node below a root, where there is one
abbrev pub IsBalancedRoot : {V Z : Type 0} → Option (Rc (Fork V) Z) → Type 0
IsBalancedRoot None = ⊤
IsBalancedRoot (Some fork) = IsLevel fork.value

-- so is the root of a tree
abbrev pub IsBalanced : {V : Type 0} → Inside V → Type 0
IsBalanced tree = IsBalancedRoot tree.root

-- What was taken from the front of a tree: nothing of an empty one, and otherwise its first pair,
-- where the rest is as high, or one lower.
abbrev pub IsTakenFrom : {V : Type 0} → List (ℤ × V) × ℕ → Option (Taken V) → Type 0
IsTakenFrom tree None = tree ≡ ([], 0)
IsTakenFrom tree (Some taken) =
    (tree.0 ≡ (taken.key, taken.value.value) ∷ taken.rest.0) ×
    ((taken.rest.1 ≤ tree.1) × (tree.1 ≤ taken.rest.1 + 1))
