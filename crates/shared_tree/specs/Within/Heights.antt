-- How high a balanced tree is: for proofs, and for the bound on steps.
use Rattle.std.specs.Prelude.{◌≡◌, ℕ, zero, suc, ◌+◌, ◌*◌, ◌≤◌, max}

-- neither height is more than this above the other
abbrev pub DifferByAtMost : ℕ → ℕ → ℕ → Type 0
DifferByAtMost by l r = (l ≤ r + by) × (r ≤ l + by)

-- a balanced tree of this height has at least so many pairs, less one
unfoldable pub least : ℕ → ℕ
least zero = 1
least (suc zero) = 2
least (suc (suc h)) = 2 * least h

-- The height h of what sides of heights l and r are joined to: no lower, at most one higher, and
-- exact where they differ by at most one.
pub record SettlesTo (l r h : ℕ) : Type 0 where
  pub not_lower : max l r ≤ h
  pub at_most_one_higher : h ≤ max l r + 1
  pub exact : DifferByAtMost 1 l r → h ≡ max l r + 1
