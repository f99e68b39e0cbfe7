-- Fronts of texts: how far a text that is no spelling could still have become one.
use Rattle.std.specs.Prelude.{ℕ, ◌<◌, ◌≤◌, List, ◌++◌, length, take}

-- some text begins with the front
abbrev pub BeginsSome : (List ℕ → Type 0) → List ℕ → Type 0
BeginsSome IsText front = (rest : List ℕ) × IsText (front ++ rest)

-- the text is none of the texts, and that many of its bytes are its longest front with which one of
-- them begins
pub record FailsAt (IsText : List ℕ → Type 0) (text : List ℕ) (at : ℕ) : Type 0 where
  pub no_text : IsText text → ⊥
  pub within : at ≤ length text
  pub front : BeginsSome IsText (take at text)
  pub longest : (k : ℕ) → at < k → k ≤ length text → BeginsSome IsText (take k text) → ⊥
