-- Serials in any order are good where those in order rise from 1 up to the next one.
use Rattle.std.proofs.Common.{◌≡◌, inl, inr, ℕ, ◌≤◌, ◌<◌, Bool, true, false, not, ◌&&◌, cond, List, [], ◌∷◌, ◌++◌, nat_lt, refl, ap, ◌∙◌, arith}
use Rattle.std.specs.Prelude.{◌==◌, nat_le}
use Rattle.std.specs.List.{list_all}
use Rattle.std.proofs.lemmas.Bool.{and_parts, and_from, ltb-true, leb-true, lt-ltb, le-leb}
use Rattle.std.proofs.lemmas.Bool.Decides.{nat_tests}
use Rattle.media_rows.specs.Good.{are_serials_good}
use Rattle.media_rows.specs.Library.{last_serial}
use Rattle.media_rows.specs.Lists.{inserted, in_order, rises, are_distinct}
use Rattle.library_laws.proofs.ListLemmas.{In-append, In-front, In-back, list_all-In, list_all-from_In}
use Rattle.library_laws.proofs.KeptLemmas.{Serials-from, Serials-test, rises-both, rises-parts}
use Rattle.library_laws.proofs.RestoreLemmas.{apart_keys}
use Rattle.core_restore.specs.Within.{rise_within}
use Rattle.core_restore.proofs.Sorting.{AreRising, put_in_order}
use Rattle.library_laws.proofs.SoundLemmas.{same_test}

-- ---- tests that don't see the order

swapped : (a b c : Bool) → (a && (b && c)) ≡ (b && (a && c))
swapped true b c = refl
swapped false true c = refl
swapped false false c = refl

module _ {X : Type 0} (before : X → X → Bool) where
  all_inserted : (p : X → Bool) (x : X) (ys : List X) → list_all p (inserted before x ys) ≡ (p x && list_all p ys)
  all_inserted p x [] = refl
  all_inserted p x (y ∷ ys) = by (before y x) (all_inserted p x ys)
    where
      by : (b : Bool) → list_all p (inserted before x ys) ≡ (p x && list_all p ys)
          → list_all p (cond b (y ∷ inserted before x ys) (x ∷ y ∷ ys)) ≡ (p x && (p y && list_all p ys))
      by true rest = ap (λ q. p y && q) rest ∙ swapped (p y) (p x) (list_all p ys)
      by false rest = refl

  pub all_in_order : (p : X → Bool) (xs : List X) → list_all p (in_order before xs) ≡ list_all p xs
  all_in_order p [] = refl
  all_in_order p (x ∷ xs) = all_inserted p x (in_order before xs) ∙ ap (λ q. p x && q) (all_in_order p xs)

  module _ (t : X → X → Bool) (turns : (a b : X) → t a b ≡ t b a) where
    pairs_inserted : (x : X) (ys : List X) → rises t (inserted before x ys) ≡ (list_all (t x) ys && rises t ys)
    pairs_inserted x [] = refl
    pairs_inserted x (y ∷ ys) = by (before y x) (pairs_inserted x ys)
      where
        by : (b : Bool) → rises t (inserted before x ys) ≡ (list_all (t x) ys && rises t ys)
            → rises t (cond b (y ∷ inserted before x ys) (x ∷ y ∷ ys)) ≡ (list_all (t x) (y ∷ ys) && rises t (y ∷ ys))
        by true rest =
            ap (λ q. q && rises t (inserted before x ys)) (all_inserted (t y) x ys) ∙ ap (λ q. (t y x && list_all (t y) ys) && q) rest
            ∙ ap (λ q. (q && list_all (t y) ys) && (list_all (t x) ys && rises t ys)) (turns y x)
            ∙ moved (t x y) (list_all (t y) ys) (list_all (t x) ys) (rises t ys)
          where
            moved : (p a b c : Bool) → ((p && a) && (b && c)) ≡ ((p && b) && (a && c))
            moved true true true c = refl
            moved true true false c = refl
            moved true false true c = refl
            moved true false false c = refl
            moved false a b c = refl
        by false rest = refl

    pub pairs_in_order : (xs : List X) → rises t (in_order before xs) ≡ rises t xs
    pairs_in_order [] = refl
    pairs_in_order (x ∷ xs) =
        pairs_inserted x (in_order before xs) ∙ ap (λ q. q && rises t (in_order before xs)) (all_in_order (t x) xs)
        ∙ ap (λ q. list_all (t x) xs && q) (pairs_in_order xs)

-- ---- serials

apart_turns : (a b : ℕ) → not (a == b) ≡ not (b == a)
apart_turns a b = by (a == b) (b == a) refl refl
  where
    by : (p q : Bool) → (a == b) ≡ p → (b == a) ≡ q → not (a == b) ≡ not (b == a)
    by true true e f = rw (e, f) refl
    by false false e f = rw (e, f) refl
    by true false e f = absurd (grind (arith, nat_tests))
    by false true e f = absurd (grind (arith, nat_tests))

good_in_order : (next : ℕ) (xs : List ℕ) → are_serials_good next (in_order nat_lt xs) ≡ are_serials_good next xs
good_in_order next xs =
    rw (
      pairs_in_order nat_lt (λ a b. not (a == b)) apart_turns xs,
      all_in_order nat_lt (λ serial. nat_le 1 serial && nat_lt serial next) xs,
    ) refl

-- distinct numbers that don't fall rise
strict : (xs : List ℕ) → AreRising (λ n. n) xs → are_distinct xs ≡ true → rises nat_lt xs ≡ true
strict [] up e = refl
strict (x ∷ xs) up e =
    let rise = and_parts (list_all (λ y. not (nat_lt y x)) xs) (rises (λ a b. not (nat_lt b a)) xs) up in
    let parts = and_parts (list_all (λ y. not (x == y)) xs) (are_distinct xs) e in
    and_from (list_all (nat_lt x) xs) (rises nat_lt xs)
    (list_all-from_In (nat_lt x) xs
    (λ y there. below x y (list_all-In (λ y. not (nat_lt y x)) xs rise.0 y there) (list_all-In (λ y. not (x == y)) xs parts.0 y there)))
    (strict xs rise.1 parts.1)
  where
    below : (a b : ℕ) → not (nat_lt b a) ≡ true → not (a == b) ≡ true → nat_lt a b ≡ true
    below a b e f = grind (arith, nat_tests)

good_from : (next : ℕ) (xs : List ℕ) → rise_within next xs ≡ true → are_serials_good next xs ≡ true
good_from next xs e =
    let both = and_parts (rises nat_lt (0 ∷ (xs ++ next ∷ []))) (nat_le next last_serial) e in
    let rest = and_parts (list_all (nat_lt 0) (xs ++ next ∷ [])) (rises nat_lt (xs ++ next ∷ [])) both.0 in
    let parts = rises-parts nat_lt xs (next ∷ []) rest.1 in
    Serials-test next xs (record {
      distinct = apart_keys (λ n. n) xs parts.front;
      within = λ s here. (
        positive s (ltb-true 0 s (list_all-In (nat_lt 0) (xs ++ next ∷ []) rest.0 s (In-front xs (next ∷ []) s here))),
        ltb-true s next (parts.across s next here (inl refl)),
      );
    }) (positive next (ltb-true 0 next (list_all-In (nat_lt 0) (xs ++ next ∷ []) rest.0 next (In-back xs (next ∷ []) next (inl refl)))))
    (leb-true next last_serial both.1)
  where
    positive : (n : ℕ) → 0 < n → 1 ≤ n
    positive n lt = omega (arith, lt)

rise_from : (next : ℕ) (xs : List ℕ) → AreRising (λ n. n) xs → are_serials_good next xs ≡ true → rise_within next xs ≡ true
rise_from next xs up e =
    let facts = Serials-from next xs e in
    let all : list_all (nat_lt 0) (xs ++ next ∷ []) ≡ true =
    list_all-from_In (nat_lt 0) (xs ++ next ∷ []) (λ s here. above s (elim (In-append xs (next ∷ []) s here) [
      | inl front ↦ (facts.0.within s front).0
      | inr (inl same) ↦ last_one s same facts.1
      | inr (inr none) ↦ absurd none
    ])) in
    and_from (rises nat_lt (0 ∷ (xs ++ next ∷ []))) (nat_le next last_serial)
    (and_from (list_all (nat_lt 0) (xs ++ next ∷ [])) (rises nat_lt (xs ++ next ∷ [])) all
    (rises-both nat_lt xs (next ∷ []) (strict xs up facts.0.distinct) refl (λ a b here there. elim there [
      | inl same ↦ lt-ltb a b (below_last a b same (facts.0.within a here).1)
      | inr none ↦ absurd none
    ])))
    (le-leb next last_serial facts.2)
  where
    above : (s : ℕ) → 1 ≤ s → nat_lt 0 s ≡ true
    above s le = lt-ltb 0 s (omega (arith, le))

    last_one : (s : ℕ) → s ≡ next → 1 ≤ next → 1 ≤ s
    last_one s e le = omega (arith, e, le)

    below_last : (a b : ℕ) → b ≡ next → a < next → a < b
    below_last a b e lt = omega (arith, e, lt)

pub serials_are_tested : (next : ℕ) (xs : List ℕ) → rise_within next (in_order nat_lt xs) ≡ are_serials_good next xs
serials_are_tested next xs =
    same_test (rise_within next (in_order nat_lt xs)) (are_serials_good next (in_order nat_lt xs)) (good_from next (in_order nat_lt xs))
    (rise_from next (in_order nat_lt xs) (put_in_order (λ n. n) xs))
    ∙ good_in_order next xs
