-- What a crash may leave over several calls in a row.
use Rattle.std.specs.Prelude.{◌≤◌, ◌⊎◌, ℕ}
use Rattle.disk_trait.specs.Device.{Device, Left}

-- one step and then another
abbrev pub Then : (Left → Left → Type 0) → (Left → Left → Type 0) → Left → Left → Type 0
Then first second old new = (mid : Left) × first old mid × second mid new

-- so far in two calls in a row: within the first, or within the second once the first has ended
abbrev pub WithinTwo : (Left → Left → Type 0) → (Left → Left → Type 0) → (Left → Left → Type 0)
    → Left → Left → Type 0
WithinTwo first ended second old new = first old new ⊎ Then ended second old new

-- A crash at any moment of some calls leaves what has P, and nothing is lost of what one might have
-- left before them.
pub record Throughout (P : Left → Type 0) (old new : Device) : Type 0 where
  pub later : old.moment ≤ new.moment
  pub since : (t : ℕ) (p : Left) → t ≤ old.moment → new.left_since t p → old.left_since t p ⊎ P p
  pub keeps : (t : ℕ) (p : Left) → t ≤ old.moment → old.left_since t p → new.left_since t p
