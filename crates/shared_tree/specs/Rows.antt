-- Values that each have a key of their own, as the values of a version. Our own.
use Rattle.std.specs.Prelude.{◌≡◌, ℤ, List}
use Rattle.std.specs.List.{AllByRecursion}

-- each value stands at its own key
abbrev pub IsKeyedBy : {V : Type 0} → (V → ℤ) → List (ℤ × V) → Type 0
IsKeyedBy key ps = AllByRecursion (λ p. p.0 ≡ key p.1) ps
