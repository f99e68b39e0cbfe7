-- Looks at rising pairs, and what changes of them leave to be seen.
use Rattle.std.proofs.Common.{◌≡◌, ℕ, negsuc, ◌-◌, ◌^◌, ◌≤ℤ◌, length, take, ℤ, ◌<ℤ◌, int_lt, int_eq, Bool, true, false, cond, List, [], ◌∷◌, ◌++◌, Some, None, filter, option_map, refl, ap, arith, sym, ◌∙◌}
use Rattle.std.specs.List.{AllByRecursion}
use Rattle.std.specs.Cmp.{signed_Decides}
use Rattle.std.proofs.lemmas.Int.{ints}
use Rattle.std.proofs.lemmas.List.{length-map, take_all}
use Rattle.std.proofs.lemmas.List.Elements.{filter-append}
use Rattle.shared_tree.specs.Pairs.{IsRising, is_above, is_at, is_below, is_from, first, value_at, values, with_pair, without_key}
use Rattle.shared_tree.proofs.Rising.{all_map, filter_all, filter_none}
use Rattle.shared_tree.proofs.Counted.{all_append, all_kept}

pub same_is : (a b : ℤ) → int_eq a b ≡ true → a ≡ b
same_is a b e = let d = signed_Decides a b in d.0 e

pub is_same : (a b : ℤ) → a ≡ b → int_eq a b ≡ true
is_same a b e = let d = signed_Decides a b in d.1 e

pub below_differs : (a b : ℤ) → a <ℤ b → int_eq a b ≡ false
below_differs a b lt = grind (arith, ints)

pub above_differs : (a b : ℤ) → b <ℤ a → int_eq a b ≡ false
above_differs a b lt = grind (arith, ints)

pub is_lower : (a b : ℤ) → int_lt a b ≡ true → a <ℤ b
is_lower a b e = omega (arith, ints, e)

pub not_lower : (a b : ℤ) → int_lt a b ≡ false → int_lt b a ≡ false → a ≡ b
not_lower a b e f = omega (arith, ints, e, f)

module _ {X : Type 0} where
  -- a test that implies another sees the same through it, and one that excludes it sees nothing
  through : (p q : X → Bool) (xs : List X) → ((x : X) → p x ≡ true → q x ≡ true) → filter p (filter q xs) ≡ filter p xs
  through p q [] h = refl
  through p q (x ∷ xs) h = by (q x) (p x) refl refl (through p q xs h)
    where
      by : (t s : Bool) → q x ≡ t → p x ≡ s → filter p (filter q xs) ≡ filter p xs
          → filter p (cond t (x ∷ filter q xs) (filter q xs)) ≡ cond s (x ∷ filter p xs) (filter p xs)
      by true true eq ep ih = rw ep (ap (λ l. x ∷ l) ih)
      by true false eq ep ih = rw ep ih
      by false true eq ep ih = absurd (let yes = h x ep in grind (arith, eq, yes))
      by false false eq ep ih = ih

  nothing : (p q : X → Bool) (xs : List X) → ((x : X) → q x ≡ true → p x ≡ false) → filter p (filter q xs) ≡ []
  nothing p q [] h = refl
  nothing p q (x ∷ xs) h = by (q x) refl (nothing p q xs h)
    where
      by : (t : Bool) → q x ≡ t → filter p (filter q xs) ≡ [] → filter p (cond t (x ∷ filter q xs) (filter q xs)) ≡ []
      by true eq ih = rw (h x eq) ih
      by false eq ih = ih

module _ {V : Type 0} where
  append_none : (l : List (ℤ × V)) → l ++ [] ≡ l
  append_none [] = refl
  append_none (x ∷ l) = ap (λ r. x ∷ r) (append_none l)

  pub looked_past : (key : ℤ) (p : ℤ × V) (rest : List (ℤ × V)) → int_eq p.0 key ≡ false → value_at key (p ∷ rest) ≡ value_at key rest
  looked_past key p rest e = rw e refl

  pub looked_here : (key : ℤ) (p : ℤ × V) (rest : List (ℤ × V)) → int_eq p.0 key ≡ true → value_at key (p ∷ rest) ≡ Some p.1
  looked_here key p rest e = rw e refl

  -- no key is this one where all are above it
  pub looked_below : (key : ℤ) (ps : List (ℤ × V)) → AllByRecursion (λ p. key <ℤ p.0) ps → value_at key ps ≡ None
  looked_below key ps h = rw (filter_none (is_at key) ps (all_map (λ p. key <ℤ p.0) (λ p. is_at key p ≡ false) (λ p lt. above_differs p.0 key lt) ps h)) refl

  -- the key's own value, where a pair was put there
  pub looked_with : (key : ℤ) (value : V) (ps : List (ℤ × V)) → value_at key (with_pair (key, value) ps) ≡ Some value
  looked_with key value ps =
      rw (
        filter-append (is_at key) (filter (is_below key) ps) ((key, value) ∷ filter (is_above key) ps),
        nothing (is_at key) (is_below key) ps
            (λ p h. below_differs p.0 key (is_lower p.0 key h)),
        is_same key key refl,
      )
      refl

  -- and all other keys' values stay
  pub looked_with_other : (k key : ℤ) (value : V) (ps : List (ℤ × V)) → int_eq key k ≡ false → value_at k (with_pair (key, value) ps) ≡ value_at k ps
  looked_with_other k key value ps other = by (int_lt k key) refl
    where
      by : (t : Bool) → int_lt k key ≡ t → value_at k (with_pair (key, value) ps) ≡ value_at k ps
      by true e =
          rw (
            filter-append (is_at k) (filter (is_below key) ps) ((key, value) ∷ filter (is_above key) ps),
            through (is_at k) (is_below key) ps
                (λ p h. let same = same_is p.0 k h in grind (arith, ints)),
            other,
            nothing (is_at k) (is_above key) ps
                (λ p h. let low = is_lower k key e in grind (arith, ints)),
          )
          (ap (λ l. option_map (λ p. p.1) (first l)) (append_none (filter (is_at k) ps)))
      by false e =
          rw (
            filter-append (is_at k) (filter (is_below key) ps) ((key, value) ∷ filter (is_above key) ps),
            nothing (is_at k) (is_below key) ps
                (λ p h. grind (arith, ints)),
            other,
            through (is_at k) (is_above key) ps (λ p h. let same = same_is p.0 k h in high p.0 same),
          )
          refl
        where
          high : (a : ℤ) → a ≡ k → int_lt key a ≡ true
          high a same = by' (int_lt key k) refl
            where
              by' : (t : Bool) → int_lt key k ≡ t → int_lt key a ≡ true
              by' true f = rw same f
              by' false f = absurd (let eq = not_lower key k f e in let yes = is_same key k eq in grind (arith, yes, other))

  -- a key that was left out has no value
  pub looked_without : (key : ℤ) (ps : List (ℤ × V)) → value_at key (without_key key ps) ≡ None
  looked_without key ps =
      rw (
        filter-append (is_at key) (filter (is_below key) ps) (filter (is_above key) ps),
        nothing (is_at key) (is_below key) ps
            (λ p h. below_differs p.0 key (is_lower p.0 key h)),
        nothing (is_at key) (is_above key) ps (λ p h. above_differs p.0 key (is_lower key p.0 h)),
      )
      refl

  pub looked_without_other : (k key : ℤ) (ps : List (ℤ × V)) → int_eq key k ≡ false → value_at k (without_key key ps) ≡ value_at k ps
  looked_without_other k key ps other = by (int_lt k key) refl
    where
      by : (t : Bool) → int_lt k key ≡ t → value_at k (without_key key ps) ≡ value_at k ps
      by true e =
          rw (
            filter-append (is_at k) (filter (is_below key) ps) (filter (is_above key) ps),
            through (is_at k) (is_below key) ps
                (λ p h. let same = same_is p.0 k h in grind (arith, ints)),
            nothing (is_at k) (is_above key) ps
                (λ p h. let low = is_lower k key e in grind (arith, ints)),
          )
          (ap (λ l. option_map (λ p. p.1) (first l)) (append_none (filter (is_at k) ps)))
      by false e =
          rw (
            filter-append (is_at k) (filter (is_below key) ps) (filter (is_above key) ps),
            nothing (is_at k) (is_below key) ps
                (λ p h. grind (arith, ints)),
            through (is_at k) (is_above key) ps (λ p h. let same = same_is p.0 k h in high p.0 same),
          )
          refl
        where
          high : (a : ℤ) → a ≡ k → int_lt key a ≡ true
          high a same = by' (int_lt key k) refl
            where
              by' : (t : Bool) → int_lt key k ≡ t → int_lt key a ≡ true
              by' true f = rw same f
              by' false f = absurd (let eq = not_lower key k f e in let yes = is_same key k eq in grind (arith, yes, other))

  -- what holds of all pairs and of a new one holds after a change
  pub all_with : (P : ℤ × V → Type 0) (key : ℤ) (value : V) (ps : List (ℤ × V)) → P (key, value) → AllByRecursion P ps
      → AllByRecursion P (with_pair (key, value) ps)
  all_with P key value ps new h =
      all_append P (filter (is_below key) ps) ((key, value) ∷ filter (is_above key) ps) (all_kept P (is_below key) ps h) (new, all_kept P (is_above key) ps h)

  pub all_without : (P : ℤ × V → Type 0) (key : ℤ) (ps : List (ℤ × V)) → AllByRecursion P ps → AllByRecursion P (without_key key ps)
  all_without P key ps h = all_append P (filter (is_below key) ps) (filter (is_above key) ps) (all_kept P (is_below key) ps h) (all_kept P (is_above key) ps h)

  -- a walk from the least key on passes all
  all_from_least : (ps : List (ℤ × V)) → AllByRecursion (λ p. negsuc (2 ^ 127 - 1) ≤ℤ p.0) ps → filter (is_from (negsuc (2 ^ 127 - 1))) ps ≡ ps
  all_from_least ps least =
      filter_all (is_from (negsuc (2 ^ 127 - 1))) ps
      (all_map (λ p. negsuc (2 ^ 127 - 1) ≤ℤ p.0) (λ p. is_from (negsuc (2 ^ 127 - 1)) p ≡ true) (λ p le. grind (arith, ints)) ps least)

  pub walked_all : (n : ℕ) (ps : List (ℤ × V)) (before all : List V) → before ≡ []
      → all ≡ before ++ take n (values (filter (is_from (negsuc (2 ^ 127 - 1))) ps)) → n ≡ length ps → AllByRecursion (λ p. negsuc (2 ^ 127 - 1) ≤ℤ p.0) ps
      → all ≡ values ps
  walked_all n ps before all none e size least =
      rw (e, none, all_from_least ps least, size) (take_all (length ps) (values ps) (omega (arith, length-map ps (λ p. p.1))))

  -- the first value stands at the least number, or is the first above it
  pub first_there : (ps : List (ℤ × V)) (value : V) → IsRising ps → AllByRecursion (λ p. negsuc (2 ^ 127 - 1) ≤ℤ p.0) ps
      → value_at (negsuc (2 ^ 127 - 1)) ps ≡ Some value → first (values ps) ≡ Some value
  first_there [] value rising least e = absurd (grind (arith, e))
  first_there (p ∷ rest) value rising least e = by (int_eq p.0 (negsuc (2 ^ 127 - 1))) refl
    where
      by : (t : Bool) → int_eq p.0 (negsuc (2 ^ 127 - 1)) ≡ t → Some p.1 ≡ Some value
      by true et = sym (looked_here (negsuc (2 ^ 127 - 1)) p rest et) ∙ e
      by false et =
          let none = looked_below (negsuc (2 ^ 127 - 1)) rest
          (all_map (λ q. p.0 <ℤ q.0) (λ q. negsuc (2 ^ 127 - 1) <ℤ q.0) (λ q lt. let le = least.0 in omega (arith, ints, lt, le)) rest rising.0) in
          let both = sym none ∙ sym (looked_past (negsuc (2 ^ 127 - 1)) p rest et) ∙ e in
          absurd (grind (arith, both))

  pub first_above : (ps : List (ℤ × V)) → AllByRecursion (λ p. negsuc (2 ^ 127 - 1) ≤ℤ p.0) ps → value_at (negsuc (2 ^ 127 - 1)) ps ≡ None
      → option_map (λ p. p.1) (first (filter (is_above (negsuc (2 ^ 127 - 1))) ps)) ≡ first (values ps)
  first_above [] least e = refl
  first_above (p ∷ rest) least e = by (int_eq p.0 (negsuc (2 ^ 127 - 1))) (int_lt (negsuc (2 ^ 127 - 1)) p.0) refl refl
    where
      by : (t a : Bool) → int_eq p.0 (negsuc (2 ^ 127 - 1)) ≡ t → int_lt (negsuc (2 ^ 127 - 1)) p.0 ≡ a
          → option_map (λ q. q.1) (first (cond a (p ∷ filter (is_above (negsuc (2 ^ 127 - 1))) rest) (filter (is_above (negsuc (2 ^ 127 - 1))) rest))) ≡ Some
          p.1
      by true a et ea = absurd (let both = sym (looked_here (negsuc (2 ^ 127 - 1)) p rest et) ∙ e in grind (arith, both))
      by false true et ea = refl
      by false false et ea =
          absurd (let same : p.0 ≡ negsuc (2 ^ 127 - 1) = (let le = least.0 in omega (arith, ints, le, ea)) in let yes =
          is_same p.0 (negsuc (2 ^ 127 - 1)) same in grind (arith, yes, et))
