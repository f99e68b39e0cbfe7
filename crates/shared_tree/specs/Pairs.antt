-- What a version is seen as: pairs of a key and a value, by rising key. Our own.
use Rattle.std.specs.Prelude.{ℕ, ℤ, ◌<ℤ◌, int_lt, int_le, Bool, List, [], ◌∷◌, ◌++◌, Option, Some, None, map, filter, length, option_map, ⊤, FitsSigned}
use mir.Syntax.{w128}
use Rattle.std.proofs.Common.{int_eq}
use Rattle.std.specs.List.{AllByRecursion, last_or}
use Rattle.std.specs.Borrow.{Bor}
use Rattle.std.specs.Int.Digits.{digits_of}

-- each key is below all later ones
abbrev pub IsRising : {V : Type 0} → List (ℤ × V) → Type 0
IsRising [] = ⊤
IsRising (p ∷ ps) = AllByRecursion (λ q. p.0 <ℤ q.0) ps × IsRising ps

-- each key is an `i128`
abbrev pub AreKeys : {V : Type 0} → List (ℤ × V) → Type 0
AreKeys ps = AllByRecursion (λ p. FitsSigned w128 p.0) ps

-- a pair's key is below, above, up to, from or at this one
abbrev pub is_below : {V : Type 0} → ℤ → ℤ × V → Bool
is_below key p = int_lt p.0 key

abbrev pub is_above : {V : Type 0} → ℤ → ℤ × V → Bool
is_above key p = int_lt key p.0

abbrev pub is_up_to : {V : Type 0} → ℤ → ℤ × V → Bool
is_up_to key p = int_le p.0 key

abbrev pub is_from : {V : Type 0} → ℤ → ℤ × V → Bool
is_from key p = int_le key p.0

abbrev pub is_at : {V : Type 0} → ℤ → ℤ × V → Bool
is_at key p = int_eq p.0 key

-- the pairs with this one at its place, instead of the one that had its key
abbrev pub with_pair : {V : Type 0} → ℤ × V → List (ℤ × V) → List (ℤ × V)
with_pair pair ps = filter (is_below pair.0) ps ++ pair ∷ filter (is_above pair.0) ps

-- the pairs without the one that has this key
abbrev pub without_key : {V : Type 0} → ℤ → List (ℤ × V) → List (ℤ × V)
without_key key ps = filter (is_below key) ps ++ filter (is_above key) ps

-- the first pair and the last one, if there are any
abbrev pub first : {A : Type 0} → List A → Option A
first [] = None
first (x ∷ xs) = Some x

abbrev pub last : {A : Type 0} → List A → Option A
last xs = last_or None xs

-- the value at a key
abbrev pub value_at : {V : Type 0} → ℤ → List (ℤ × V) → Option V
value_at key ps = option_map (λ p. p.1) (first (filter (is_at key) ps))

-- the values of pairs
abbrev pub values : {V : Type 0} → List (ℤ × V) → List V
values ps = map (λ p. p.1) ps

-- the values that references point to
abbrev pub values_of : {V : Type 0} → List (Bor V) → List V
values_of refs = map (λ r. r.now) refs

-- how many binary digits a number has
abbrev pub digits : ℕ → ℕ
digits n = length (digits_of 2 n)
