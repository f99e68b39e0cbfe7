-- Tests of lists, and lists without some of their items.
use Rattle.std.proofs.Common.{◌≡◌, ℕ, zero, suc, ◌≤◌, ◌==◌, Bool, true, false, not, ◌&&◌, ◌||◌, cond, List, [], ◌∷◌, ◌++◌, Option, Some, None, filter, find, Bor, is_some, option_copied, take, length, refl, sym, ap, subst, ◌∙◌, arith}
use Rattle.std.specs.List.{AllByRecursion, list_all, list_any}
use Rattle.std.proofs.lemmas.Bool.Decides.{nat_tests}

pub both : (a b : Bool) → a ≡ true → b ≡ true → (a && b) ≡ true
both true b e f = f
both false b e f = absurd (grind (arith, e))

pub parts : (a b : Bool) → (a && b) ≡ true → (a ≡ true) × (b ≡ true)
parts true b e = (refl, e)
parts false b e = absurd (grind (arith, e))

pub not_true : (b : Bool) → not b ≡ true → b ≡ false
not_true true e = absurd (grind (arith, e))
not_true false e = refl

pub not_both : {b : Bool} → b ≡ true → b ≡ false → true ≡ false
not_both e f = sym e ∙ f

pub number_turn : (a b : ℕ) → (a == b) ≡ (b == a)
number_turn a b = by (a == b) (b == a) refl refl
  where
    by : (s t : Bool) → (a == b) ≡ s → (b == a) ≡ t → (a == b) ≡ (b == a)
    by true true e f = e ∙ sym f
    by false false e f = e ∙ sym f
    by true false e f = absurd (grind (arith, nat_tests))
    by false true e f = absurd (grind (arith, nat_tests))

pub number_same : (n : ℕ) → (n == n) ≡ true
number_same n = grind (arith, nat_tests)

pub some_same : {X : Type 0} {x y : X} → Some x ≡ Some y → x ≡ y
some_same e = grind (arith, e)

module _ {X : Type 0} where
  pub each_is : (test : X → Bool) (xs : List X) → list_all test xs ≡ true → AllByRecursion (λ x. test x ≡ true) xs
  each_is test [] e = tt
  each_is test (x ∷ xs) e = let p = parts (test x) (list_all test xs) e in (p.0, each_is test xs p.1)

  -- two facts of each
  pub all_two : (P Q R : X → Type 0) → ((x : X) → P x → Q x → R x) → (xs : List X) → AllByRecursion P xs → AllByRecursion Q xs → AllByRecursion R xs
  all_two P Q R f [] p q = tt
  all_two P Q R f (x ∷ xs) p q = (f x p.0 q.0, all_two P Q R f xs p.1 q.1)

  pub all_taken : (P : X → Type 0) (n : ℕ) (xs : List X) → AllByRecursion P xs → AllByRecursion P (take n xs)
  all_taken P zero xs h = tt
  all_taken P (suc n) [] h = tt
  all_taken P (suc n) (x ∷ xs) h = (h.0, all_taken P n xs h.1)

  -- tests that agree on a list keep the same of it
  pub agreed : (p q : X → Bool) (xs : List X) → AllByRecursion (λ x. p x ≡ q x) xs → filter p xs ≡ filter q xs
  agreed p q [] h = refl
  agreed p q (x ∷ xs) h = rw h.0 (ap (λ l. cond (q x) (x ∷ l) l) (agreed p q xs h.1))

  pub always : (P : X → Type 0) → ((x : X) → P x) → (xs : List X) → AllByRecursion P xs
  always P f [] = tt
  always P f (x ∷ xs) = (f x, always P f xs)

  pub filter_twice : (p q : X → Bool) (xs : List X) → filter p (filter q xs) ≡ filter (λ x. q x && p x) xs
  filter_twice p q [] = refl
  filter_twice p q (x ∷ xs) = by (q x) (p x) refl (filter_twice p q xs)
    where
      by : (s t : Bool) → p x ≡ t → filter p (filter q xs) ≡ filter (λ y. q y && p y) xs
          → filter p (cond s (x ∷ filter q xs) (filter q xs)) ≡ cond (s && t) (x ∷ filter (λ y. q y && p y) xs) (filter (λ y. q y && p y) xs)
      by true true e ih = rw e (ap (λ l. x ∷ l) ih)
      by true false e ih = rw e ih
      by false t e ih = ih

  -- where a test holds of none but those of another, that one is no loss
  pub filter_inner : (p q : X → Bool) (xs : List X) → AllByRecursion (λ x. q x ≡ true → p x ≡ true) xs → filter q (filter p xs) ≡ filter q xs
  filter_inner p q xs h = filter_twice q p xs ∙ agreed (λ x. p x && q x) q xs (all_each xs h)
    where
      one : (a b : Bool) → (b ≡ true → a ≡ true) → (a && b) ≡ b
      one true b f = refl
      one false true f = absurd (grind (arith, f refl))
      one false false f = refl

      all_each : (ys : List X) → AllByRecursion (λ x. q x ≡ true → p x ≡ true) ys → AllByRecursion (λ x. (p x && q x) ≡ q x) ys
      all_each [] g = tt
      all_each (y ∷ ys) g = (one (p y) (q y) g.0, all_each ys g.1)

  pub found_any : (test : X → Bool) (xs : List X) → is_some (find test xs) ≡ list_any test xs
  found_any test [] = refl
  found_any test (x ∷ xs) = by (test x) (found_any test xs)
    where
      by : (t : Bool) → is_some (find test xs) ≡ list_any test xs → is_some (cond t (Some x) (find test xs)) ≡ (t || list_any test xs)
      by true ih = refl
      by false ih = ih

  -- what is found has what all have
  pub found_has : (P : X → Type 0) (test : X → Bool) (xs : List X) (x : X) → AllByRecursion P xs → find test xs ≡ Some x → P x
  found_has P test [] x h e = absurd (grind (arith, e))
  found_has P test (y ∷ ys) x h e = by (test y) e (found_has P test ys x h.1)
    where
      by : (t : Bool) → cond t (Some y) (find test ys) ≡ Some x → (find test ys ≡ Some x → P x) → P x
      by true f ih = subst P (some_same f) h.0
      by false f ih = ih f

  -- ---- first parts

  pub take_fewer : (m n : ℕ) (xs : List X) → m ≤ n → take m (take n xs) ≡ take m xs
  take_fewer zero n xs le = refl
  take_fewer (suc m) zero xs le = absurd (omega (arith, le))
  take_fewer (suc m) (suc n) [] le = refl
  take_fewer (suc m) (suc n) (x ∷ xs) le = ap (λ l. x ∷ l) (take_fewer m n xs (omega (arith, le)))

  pub take_front : (n : ℕ) (xs ys : List X) → n ≤ length xs → take n (xs ++ ys) ≡ take n xs
  take_front zero xs ys le = refl
  take_front (suc n) [] ys le = absurd (omega (arith, le))
  take_front (suc n) (x ∷ xs) ys le = ap (λ l. x ∷ l) (take_front n xs ys (omega (arith, le)))

  pub append_nothing : (xs : List X) → xs ++ [] ≡ xs
  append_nothing [] = refl
  append_nothing (x ∷ xs) = ap (λ l. x ∷ l) (append_nothing xs)

  pub append_one : (xs : List X) (x : X) (ys : List X) → xs ++ x ∷ ys ≡ (xs ++ x ∷ []) ++ ys
  append_one [] x ys = refl
  append_one (y ∷ xs) x ys = ap (λ l. y ∷ l) (append_one xs x ys)

  pub some_any : (test : X → Bool) (xs : List X) → 1 ≤ length (filter test xs) → list_any test xs ≡ true
  some_any test [] le = absurd (omega (arith, le))
  some_any test (x ∷ xs) le = by (test x) le (some_any test xs)
    where
      by : (t : Bool) → 1 ≤ length (cond t (x ∷ filter test xs) (filter test xs)) → (1 ≤ length (filter test xs) → list_any test xs ≡ true)
          → (t || list_any test xs) ≡ true
      by true h ih = refl
      by false h ih = ih h

pub copied_there : {X : Type 0} (found : Option (Bor X)) → is_some (option_copied found) ≡ is_some found
copied_there None = refl
copied_there (Some x) = refl
