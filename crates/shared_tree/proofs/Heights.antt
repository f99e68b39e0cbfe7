-- How many pairs a balanced tree of a height has at least.
use Rattle.std.proofs.Common.{◌≡◌, inl, inr, ℕ, zero, suc, ◌+◌, ◌*◌, ◌^◌, ◌<◌, ◌≤◌, max, subst, arith, length, List, ◌∷◌, ◌++◌, length-append}
use Rattle.std.proofs.Math.Nat.{eq-or-lt_of_le}
use Rattle.std.proofs.lemmas.Grind.{pow_more}
use Rattle.std.specs.Int.Digits.{digits_of}
use Rattle.std.proofs.lemmas.Int.Digits.{number_lt, number_digits_of, all_below_base_digits_of}
use Rattle.shared_tree.specs.Within.Heights.{DifferByAtMost, least}
use Rattle.shared_tree.specs.Pairs.{digits}

-- a higher tree has more pairs, or as many
pub least_grows : (h : ℕ) → least h ≤ least (suc h)
unfolding least
least_grows zero = omega arith
least_grows (suc zero) = omega arith
least_grows (suc (suc h)) = omega (arith, least_grows h)

pub least_mono : (a b : ℕ) → a ≤ b → least a ≤ least b
least_mono a zero h = let e : a ≡ 0 = omega (arith, h) in rw e (omega arith)
least_mono a (suc b) h =
    elim (eq-or-lt_of_le h) [
      | inl e ↦ rw e (omega arith)
      | inr lt ↦ omega (arith, least_mono a b (omega (arith, lt)), least_grows b)
    ]

-- a node over a side of height k and one that is as high, or one lower
higher : (k m : ℕ) → m ≤ k → k ≤ m + 1 → least (suc k) ≤ least k + least m
unfolding least
higher zero m h1 h2 = let e : m ≡ 0 = omega (arith, h1) in rw e (omega arith)
higher (suc k) m h1 h2 = omega (arith, least_grows k, least_mono k m (omega (arith, h2)))

-- a node over two sides
pub least_joined : (l r : ℕ) → DifferByAtMost 1 l r → least (max l r + 1) ≤ least l + least r
least_joined l r level = grind (arith, higher l r, higher r l, level.0, level.1)

-- every second level doubles the number of pairs
pub least_large : (d h : ℕ) → 2 * d < h → 2 ^ (d + 1) ≤ least h
unfolding least
least_large zero zero lt = absurd (omega (arith, lt))
least_large zero (suc h) lt = omega (arith, least_mono 1 (suc h) (omega arith))
least_large (suc d) zero lt = absurd (omega (arith, lt))
least_large (suc d) (suc zero) lt = absurd (omega (arith, lt))
least_large (suc d) (suc (suc h)) lt = grind (arith, pow_more 2 (d + 1), least_large d h (omega (arith, lt)))

-- so a tree of few pairs is low
pub low : (d h n : ℕ) → least h ≤ n + 1 → n + 1 < 2 ^ (d + 1) → h ≤ 2 * d
low d h n filled few = grind (arith, least_large d h)

-- a node has as many pairs as its height asks for, where its sides have
pub filled_joined : {A : Type 0} (h : ℕ) (l r : List A) (p : A) (lh rh : ℕ) → DifferByAtMost 1 lh rh → least lh ≤ length l + 1 → least rh ≤ length r + 1
    → h ≡ max lh rh + 1 → least h ≤ length (l ++ p ∷ r) + 1
filled_joined h l r p lh rh level fl fr e =
    rw (e, length-append l (p ∷ r)) (omega (arith, least_joined lh rh level, fl, fr))

-- a tree is at most twice as high as its number of pairs has digits
pub height_by_digits : (h n : ℕ) → least h ≤ n + 1 → h ≤ 2 * digits n
height_by_digits h n filled =
    let below : n < 2 ^ digits n = subst (λ m. m < 2 ^ digits n) (number_digits_of 2 n (omega arith))
    (number_lt 2 (digits_of 2 n) (all_below_base_digits_of 2 n (omega arith))) in
    low (digits n) h n filled (grind (arith, pow_more 2 (digits n)))
