-- Rows that are sorted by a number of theirs, where those of one number stay in their order, are the rows in order.
use Rattle.std.proofs.Common.{◌≡◌, ℕ, suc, ◌<◌, ◌≤◌, Bool, true, false, not, ◌&&◌, cond, List, [], ◌∷◌, filter, get_or, length, refl, sym, ap, ◌∙◌, arith, nat_lt}
use Rattle.std.specs.List.{list_all}
use Rattle.std.specs.List.Sorted.{IsNonDecreasingBy, IsSortedByKey, IsStableByKey, ties}
use Rattle.std.specs.Prelude.{◌==◌}
use Rattle.std.specs.Ordering.{is_lt, nat_cmp}
use Rattle.std.specs.declared.cmp.Ordering.TheVariants.{Less, Equal, Greater}
use Rattle.std.proofs.lemmas.Bool.{and_parts, and_from}
use Rattle.std.proofs.lemmas.Bool.Decides.{nat_tests}
use Rattle.std.proofs.lemmas.List.Sorted.{IsNonDecreasingBy-from_sort}
use Rattle.media_rows.specs.Lists.{inserted, in_order, rises}
use Rattle.library_laws.proofs.PageLemmas.{in_order_rises}
use Rattle.library_laws.proofs.RestoreLemmas.{before}

module _ {X : Type 0} (key : X → ℕ) where
  -- rows of one number
  abbrev at : ℕ → X → Bool
  at n x = not (nat_lt n (key x)) && not (nat_lt (key x) n)

  -- none stands behind one of a higher number
  abbrev pub AreRising : List X → Type 0
  AreRising xs = rises (λ a b. not (nat_lt (key b) (key a))) xs ≡ true

  passed_over : (n : ℕ) (x y : X) (ys : List X) (b : Bool) → nat_lt (key y) (key x) ≡ b
      → filter (at n) (inserted (before key) x ys) ≡ filter (at n) (x ∷ ys)
      → filter (at n) (cond b (y ∷ inserted (before key) x ys) (x ∷ y ∷ ys)) ≡ filter (at n) (x ∷ y ∷ ys)
  passed_over n x y ys false e rest = refl
  passed_over n x y ys true e rest = by (at n x) (at n y) refl refl rest
    where
      by : (p q : Bool) → at n x ≡ p → at n y ≡ q → filter (at n) (inserted (before key) x ys) ≡ cond (at n x) (x ∷ filter (at n) ys) (filter (at n) ys)
          → cond (at n y) (y ∷ filter (at n) (inserted (before key) x ys)) (filter (at n) (inserted (before key) x ys))
          ≡ cond (at n x) (x ∷ cond (at n y) (y ∷ filter (at n) ys) (filter (at n) ys)) (cond (at n y) (y ∷ filter (at n) ys) (filter (at n) ys))
      by true true ep eq more = absurd (grind (arith, nat_tests))
      by true false ep eq more = rw (ep, eq) (more ∙ rw ep refl)
      by false true ep eq more = rw (ep, eq) (ap (λ l. y ∷ l) (more ∙ rw ep refl))
      by false false ep eq more = rw (ep, eq) (more ∙ rw ep refl)

  inserted_same : (n : ℕ) (x : X) (ys : List X) → filter (at n) (inserted (before key) x ys) ≡ filter (at n) (x ∷ ys)
  inserted_same n x [] = refl
  inserted_same n x (y ∷ ys) = passed_over n x y ys (nat_lt (key y) (key x)) refl (inserted_same n x ys)

  in_order_same : (n : ℕ) (xs : List X) → filter (at n) (in_order (before key) xs) ≡ filter (at n) xs
  in_order_same n [] = refl
  in_order_same n (x ∷ xs) = inserted_same n x (in_order (before key) xs) ∙ ap (λ l. cond (at n x) (x ∷ l) l) (in_order_same n xs)

  -- ---- rows that rise

  first_low : (x : X) (xs : List X) → IsNonDecreasingBy key (x ∷ xs) → list_all (λ y. not (nat_lt (key y) (key x))) xs ≡ true
  first_low x xs up = each xs (λ i d lt. up 0 (suc i) d (omega arith) (omega (arith, lt)))
    where
      not_below : (a b : ℕ) → a ≤ b → not (nat_lt b a) ≡ true
      not_below a b le = grind (arith, nat_tests)

      each : (ys : List X) → ((i : ℕ) (d : X) → i < length ys → key x ≤ key (get_or ys i d)) → list_all (λ y. not (nat_lt (key y) (key x))) ys ≡ true
      each [] low = refl
      each (y ∷ ys) low =
          and_from (not (nat_lt (key y) (key x))) (list_all (λ y. not (nat_lt (key y) (key x))) ys) (not_below (key x) (key y) (low 0 y (omega arith)))
          (each ys (λ i d lt. low (suc i) d (omega (arith, lt))))

  rising_from : (xs : List X) → IsNonDecreasingBy key xs → AreRising xs
  rising_from [] up = refl
  rising_from (x ∷ xs) up =
      and_from (list_all (λ y. not (nat_lt (key y) (key x))) xs) (rises (λ a b. not (nat_lt (key b) (key a))) xs) (first_low x xs up)
      (rising_from xs (λ i j d le lt. up (suc i) (suc j) d (omega (arith, le)) (omega (arith, lt))))

  one_way : (a b : ℕ) → nat_lt a b ≡ true → nat_lt b a ≡ false
  one_way a b e = grind (arith, nat_tests)

  passes_on : (a b c : ℕ) → nat_lt b a ≡ false → nat_lt c b ≡ false → nat_lt c a ≡ false
  passes_on a b c e f = grind (arith, nat_tests)

  pub put_in_order : (xs : List X) → AreRising (in_order (before key) xs)
  put_in_order xs =
      in_order_rises (before key)
      (record { one_way = λ a b. one_way (key a) (key b); passes_on = λ a b c. passes_on (key a) (key b) (key c) }) xs

  -- ---- rows that rise are one list where those of each number are

  some_at : (n : ℕ) (x : X) (xs ys : List X) → nat_lt n (key x) ≡ false → nat_lt (key x) n ≡ false → filter (at n) (x ∷ xs) ≡ filter (at n) ys
      → filter (at n) ys ≡ x ∷ filter (at n) xs
  some_at n x xs ys e f same = sym same ∙ rw (e, f) refl

  not_low : (x y : X) (xs ys : List X) → list_all (λ z. not (nat_lt (key z) (key y))) ys ≡ true → filter (at (key x)) (y ∷ ys) ≡ x ∷ xs
      → nat_lt (key x) (key y) ≡ false
  not_low x y xs ys low is = by (nat_lt (key x) (key y)) refl
    where
      none : (zs : List X) → nat_lt (key x) (key y) ≡ true → list_all (λ z. not (nat_lt (key z) (key y))) zs ≡ true → filter (at (key x)) zs ≡ []
      none [] e all = refl
      none (z ∷ zs) e all =
          let parts = and_parts (not (nat_lt (key z) (key y))) (list_all (λ z. not (nat_lt (key z) (key y))) zs) all in
          let out : at (key x) z ≡ false = grind (arith, nat_tests) in
          rw out (none zs e parts.1)

      by : (b : Bool) → nat_lt (key x) (key y) ≡ b → nat_lt (key x) (key y) ≡ false
      by false e = e
      by true e =
          let out : at (key x) y ≡ false = grind (arith, nat_tests) in
          absurd (nothing (sym (rw out (none ys e low)) ∙ is))
        where
          nothing : [] ≡ x ∷ xs → ⊥
          nothing e = cc

  one_list : (xs ys : List X) → AreRising xs → AreRising ys → ((z : X) → filter (at (key z)) xs ≡ filter (at (key z)) ys) → xs ≡ ys
  one_list [] [] up rise same = refl
  one_list [] (y ∷ ys) up rise same = absurd (nothing (same y ∙ rw (self (key y)) refl))
    where
      self : (n : ℕ) → nat_lt n n ≡ false
      self n = grind (arith, nat_tests)

      nothing : [] ≡ y ∷ filter (at (key y)) ys → ⊥
      nothing e = cc
  one_list (x ∷ xs) [] up rise same = absurd (nothing (sym (same x) ∙ rw (self (key x)) refl))
    where
      self : (n : ℕ) → nat_lt n n ≡ false
      self n = grind (arith, nat_tests)

      nothing : [] ≡ x ∷ filter (at (key x)) xs → ⊥
      nothing e = cc
  one_list (x ∷ xs) (y ∷ ys) up rise same =
      let mine = and_parts (list_all (λ z. not (nat_lt (key z) (key x))) xs) (rises (λ a b. not (nat_lt (key b) (key a))) xs) up in
      let other = and_parts (list_all (λ z. not (nat_lt (key z) (key y))) ys) (rises (λ a b. not (nat_lt (key b) (key a))) ys) rise in
      let low = not_low x y (filter (at (key x)) xs) ys other.0 (some_at (key x) x xs (y ∷ ys) (self (key x)) (self (key x)) (same x)) in
      let high = not_low y x (filter (at (key y)) ys) xs mine.0 (some_at (key y) y ys (x ∷ xs) (self (key y)) (self (key y)) (sym (same y))) in
      let heads : x ∷ filter (at (key x)) xs ≡ y ∷ filter (at (key x)) ys =
      sym (some_at (key x) x xs (y ∷ ys) (self (key x)) (self (key x)) (same x)) ∙ rw (low, high) refl in
      let first : x ≡ y = cc in
      rw first (ap (λ l. y ∷ l) (one_list xs ys mine.1 other.1 (λ z. rest (key z) first (same z))))
    where
      self : (n : ℕ) → nat_lt n n ≡ false
      self n = grind (arith, nat_tests)

      tails : (b : Bool) (ps qs : List X) → x ≡ y → cond b (x ∷ ps) ps ≡ cond b (y ∷ qs) qs → ps ≡ qs
      tails true ps qs e f = cc
      tails false ps qs e f = f

      rest : (n : ℕ) → x ≡ y → filter (at n) (x ∷ xs) ≡ filter (at n) (y ∷ ys) → filter (at n) xs ≡ filter (at n) ys
      rest n e f = tails (at n x) (filter (at n) xs) (filter (at n) ys) e (f ∙ ap (λ z. cond (at n z) (y ∷ filter (at n) ys) (filter (at n) ys)) (sym e))

  alike : (p q : X → Bool) (xs : List X) → ((x : X) → p x ≡ q x) → filter p xs ≡ filter q xs
  alike p q [] same = refl
  alike p q (x ∷ xs) same = ap (λ b. cond b (x ∷ filter p xs) (filter p xs)) (same x) ∙ ap (λ l. cond (q x) (x ∷ l) l) (alike p q xs same)

  less_is : (a b : ℕ) → is_lt (nat_cmp a b) ≡ nat_lt a b
  less_is a b = by (nat_lt a b) (a == b)
    where
      by : (p q : Bool) → is_lt (cond p Less (cond q Equal Greater)) ≡ p
      by true q = refl
      by false true = refl
      by false false = refl

  ties_at : (x y : X) → ties (λ a b. is_lt (nat_cmp (key a) (key b))) x y ≡ at (key x) y
  ties_at x y = rw (less_is (key x) (key y), less_is (key y) (key x)) refl

  pub sorted_is : (xs ys : List X) → IsSortedByKey key nat_cmp ys → IsStableByKey key nat_cmp xs ys → ys ≡ in_order (before key) xs
  sorted_is xs ys up stable =
      one_list ys (in_order (before key) xs) (rising_from ys (IsNonDecreasingBy-from_sort key ys up)) (put_in_order xs)
      (λ x. sym (alike _ _ ys (ties_at x)) ∙ stable x ∙ alike _ _ xs (ties_at x) ∙ sym (in_order_same (key x) xs))
