-- Lists put in order: an item may be put in last, items that a test keeps are in order too, and an order that
-- was there before makes no difference.
use Rattle.std.proofs.Common.{◌≡◌, ◌⊎◌, inl, inr, Bool, true, false, not, cond, List, [], ◌∷◌, ◌++◌, filter, refl, sym, ap, ◌∙◌, arith}
use Rattle.std.specs.List.{AllByRecursion, list_all}
use Rattle.std.proofs.lemmas.Bool.{and_parts, and_from, cond-true, cond-false}
use Rattle.media_rows.specs.Lists.{rises, inserted, in_order}
use Rattle.library_laws.proofs.PageLemmas.{IsOrder, in_order_rises}

module _ {X : Type 0} (t : X → X → Bool) where
  -- one of two stands before the other, or they are one
  abbrev pub Comparable : X → X → Type 0
  Comparable x y = (t x y ≡ true) ⊎ ((t y x ≡ true) ⊎ (x ≡ y))

  -- each of these compares with an item, and each of a list with each later one
  abbrev pub EachComparable : List X → Type 0
  EachComparable [] = Unit {0}
  EachComparable (x ∷ xs) = AllByRecursion (Comparable x) xs × EachComparable xs

  -- ---- what holds of each

  each_put : (P : X → Type 0) (x : X) (ys : List X) → P x → AllByRecursion P ys → AllByRecursion P (inserted t x ys)
  each_put P x [] px all = (px, tt)
  each_put P x (y ∷ ys) px all = by (t y x) (each_put P x ys px all.1)
    where
      by : (b : Bool) → AllByRecursion P (inserted t x ys) → AllByRecursion P (cond b (y ∷ inserted t x ys) (x ∷ y ∷ ys))
      by true rest = (all.0, rest)
      by false rest = (px, all)

  pub each_of : (P : X → Type 0) (xs : List X) → AllByRecursion P xs → AllByRecursion P (in_order t xs)
  each_of P [] all = tt
  each_of P (x ∷ xs) all = each_put P x (in_order t xs) all.0 (each_of P xs all.1)

  each_taken : (P : X → Type 0) (x : X) (ys : List X) → AllByRecursion P (inserted t x ys) → P x × AllByRecursion P ys
  each_taken P x [] all = all
  each_taken P x (y ∷ ys) all = by (t y x) (each_taken P x ys) all
    where
      by : (b : Bool) → (AllByRecursion P (inserted t x ys) → P x × AllByRecursion P ys)
          → AllByRecursion P (cond b (y ∷ inserted t x ys) (x ∷ y ∷ ys)) → P x × (P y × AllByRecursion P ys)
      by true rest h = let got = rest h.1 in (got.0, (h.0, got.1))
      by false rest h = (h.0, h.1)

  pub each_before : (P : X → Type 0) (xs : List X) → AllByRecursion P (in_order t xs) → AllByRecursion P xs
  each_before P [] all = tt
  each_before P (x ∷ xs) all = let got = each_taken P x (in_order t xs) all in (got.0, each_before P xs got.1)

module _ {X : Type 0} (t : X → X → Bool) (is : IsOrder t) where
  past : (x y : X) (ys : List X) → t y x ≡ true → inserted t x (y ∷ ys) ≡ y ∷ inserted t x ys
  past x y ys e = cond-true (t y x) (y ∷ inserted t x ys) (x ∷ y ∷ ys) e

  pub here : (x y : X) (ys : List X) → t y x ≡ false → inserted t x (y ∷ ys) ≡ x ∷ y ∷ ys
  here x y ys e = cond-false (t y x) (y ∷ inserted t x ys) (x ∷ y ∷ ys) e

  between : (x y z : X) → t z x ≡ false → t z y ≡ true → t y x ≡ true → ⊥
  between x y z zx zy yx = let fails = is.passes_on y x z (is.one_way y x yx) zx in grind (arith, fails, zy)

  swap_past : (x y z : X) (zs : List X) (p q : Bool) → t z x ≡ p → t z y ≡ q → t y x ≡ true
      → inserted t x (inserted t y zs) ≡ inserted t y (inserted t x zs)
      → inserted t x (inserted t y (z ∷ zs)) ≡ inserted t y (inserted t x (z ∷ zs))
  swap_past x y z zs true true zx zy yx rest =
      ap (inserted t x) (past y z zs zy) ∙ past x z (inserted t y zs) zx ∙ ap (λ l. z ∷ l) rest
      ∙ sym (past y z (inserted t x zs) zy) ∙ sym (ap (inserted t y) (past x z zs zx))
  swap_past x y z zs true false zx zy yx rest =
      ap (inserted t x) (here y z zs zy) ∙ past x y (z ∷ zs) yx ∙ ap (λ l. y ∷ l) (past x z zs zx)
      ∙ sym (here y z (inserted t x zs) zy) ∙ sym (ap (inserted t y) (past x z zs zx))
  swap_past x y z zs false true zx zy yx rest = absurd (between x y z zx zy yx)
  swap_past x y z zs false false zx zy yx rest =
      ap (inserted t x) (here y z zs zy) ∙ past x y (z ∷ zs) yx ∙ ap (λ l. y ∷ l) (here x z zs zx)
      ∙ sym (here y x (z ∷ zs) (is.one_way y x yx)) ∙ sym (ap (inserted t y) (here x z zs zx))

  pub swap_below : (x y : X) (zs : List X) → t y x ≡ true → inserted t x (inserted t y zs) ≡ inserted t y (inserted t x zs)
  swap_below x y [] e = past x y [] e ∙ sym (here y x [] (is.one_way y x e))
  swap_below x y (z ∷ zs) e = swap_past x y z zs (t z x) (t z y) refl refl e (swap_below x y zs e)

  -- two items that compare may be put in the one before the other
  pub swap_two : (x y : X) (zs : List X) → Comparable t x y → inserted t x (inserted t y zs) ≡ inserted t y (inserted t x zs)
  swap_two x y zs (inl e) = sym (swap_below y x zs e)
  swap_two x y zs (inr (inl e)) = swap_below x y zs e
  swap_two x y zs (inr (inr e)) = ap (λ w. inserted t x (inserted t w zs)) (sym e) ∙ ap (λ w. inserted t w (inserted t x zs)) e

  -- an item that compares with those before it may be put in last
  pub put_last : (front : List X) (x : X) (back : List X) → AllByRecursion (Comparable t x) front
      → in_order t (front ++ x ∷ back) ≡ inserted t x (in_order t (front ++ back))
  put_last [] x back all = refl
  put_last (y ∷ front) x back all =
      ap (inserted t y) (put_last front x back all.1) ∙ sym (swap_two x y (in_order t (front ++ back)) all.0)

  -- ---- items that a test keeps

  first_stays : (x : X) (ys : List X) → list_all (λ y. not (t y x)) ys ≡ true → inserted t x ys ≡ x ∷ ys
  first_stays x [] e = refl
  first_stays x (y ∷ ys) e = here x y ys (fails (t y x) (and_parts (not (t y x)) (list_all (λ z. not (t z x)) ys) e).0)
    where
      fails : (b : Bool) → not b ≡ true → b ≡ false
      fails true e' = sym e'
      fails false e' = refl

  all_kept : (p q : X → Bool) (ys : List X) → list_all q ys ≡ true → list_all q (filter p ys) ≡ true
  all_kept p q [] e = refl
  all_kept p q (y ∷ ys) e = let parts = and_parts (q y) (list_all q ys) e in by (p y) parts.0 (all_kept p q ys parts.1)
    where
      by : (b : Bool) → q y ≡ true → list_all q (filter p ys) ≡ true → list_all q (cond b (y ∷ filter p ys) (filter p ys)) ≡ true
      by true first rest = and_from (q y) (list_all q (filter p ys)) first rest
      by false first rest = rest

  -- what begins a list in order stands before none of what comes before it
  none_before : (x y : X) (ys : List X) → t y x ≡ false → list_all (λ z. not (t z y)) ys ≡ true → list_all (λ z. not (t z x)) ys ≡ true
  none_before x y [] e all = refl
  none_before x y (z ∷ zs) e all =
      let parts = and_parts (not (t z y)) (list_all (λ w. not (t w y)) zs) all in
      and_from (not (t z x)) (list_all (λ w. not (t w x)) zs) (turn (t z y) (t z x) refl refl parts.0) (none_before x y zs e parts.1)
    where
      turn : (a b : Bool) → t z y ≡ a → t z x ≡ b → not a ≡ true → not b ≡ true
      turn a false ea eb held = refl
      turn false true ea eb held = sym (sym eb ∙ is.passes_on x y z e ea)
      turn true true ea eb held = held

  abbrev Rising : List X → Type 0
  Rising ys = rises (λ a b. not (t b a)) ys ≡ true

  kept_put : (p : X → Bool) (x : X) (ys : List X) → Rising ys → filter p (inserted t x ys) ≡ cond (p x) (inserted t x (filter p ys)) (filter p ys)
  kept_put p x [] rise = refl
  kept_put p x (y ∷ ys) rise =
      let parts = and_parts (list_all (λ z. not (t z y)) ys) (rises (λ a b. not (t b a)) ys) rise in
      by (t y x) (p x) (p y) refl refl refl parts.0 (kept_put p x ys parts.1)
    where
      by : (b s k : Bool) → t y x ≡ b → p x ≡ s → p y ≡ k → list_all (λ z. not (t z y)) ys ≡ true
          → filter p (inserted t x ys) ≡ cond (p x) (inserted t x (filter p ys)) (filter p ys)
          → filter p (cond b (y ∷ inserted t x ys) (x ∷ y ∷ ys)) ≡ cond s (inserted t x (filter p (y ∷ ys))) (filter p (y ∷ ys))
      by true true true eb es ek all rest = rw (ek, rest, es) (sym (past x y (filter p ys) eb))
      by true true false eb es ek all rest = rw (ek, rest, es) refl
      by true false true eb es ek all rest = rw (ek, rest, es) refl
      by true false false eb es ek all rest = rw (ek, rest, es) refl
      by false true true eb es ek all rest = rw (es, ek) (sym (here x y (filter p ys) eb))
      by false true false eb es ek all rest =
          rw (es, ek) (sym (first_stays x (filter p ys) (all_kept p (λ z. not (t z x)) ys (none_before x y ys eb all))))
      by false false true eb es ek all rest = rw (es, ek) refl
      by false false false eb es ek all rest = rw (es, ek) refl

  pub kept_in_order : (p : X → Bool) (xs : List X) → filter p (in_order t xs) ≡ in_order t (filter p xs)
  kept_in_order p [] = refl
  kept_in_order p (x ∷ xs) = kept_put p x (in_order t xs) (in_order_rises t is xs) ∙ by (p x) (kept_in_order p xs)
    where
      by : (b : Bool) → filter p (in_order t xs) ≡ in_order t (filter p xs)
          → cond b (inserted t x (filter p (in_order t xs))) (filter p (in_order t xs)) ≡ in_order t (cond b (x ∷ filter p xs) (filter p xs))
      by true e = ap (inserted t x) e
      by false e = e

  -- ---- an order after another

  put_after : (u : X → X → Bool) (x : X) (ys : List X) → AllByRecursion (Comparable t x) ys
      → in_order t (inserted u x ys) ≡ inserted t x (in_order t ys)
  put_after u x [] all = refl
  put_after u x (y ∷ ys) all = by (u y x) (put_after u x ys all.1)
    where
      by : (b : Bool) → in_order t (inserted u x ys) ≡ inserted t x (in_order t ys)
          → in_order t (cond b (y ∷ inserted u x ys) (x ∷ y ∷ ys)) ≡ inserted t x (inserted t y (in_order t ys))
      by true e = ap (inserted t y) e ∙ sym (swap_two x y (in_order t ys) all.0)
      by false e = refl

  pub order_after : (u : X → X → Bool) (xs : List X) → EachComparable t xs → in_order t (in_order u xs) ≡ in_order t xs
  order_after u [] all = refl
  order_after u (x ∷ xs) all = put_after u x (in_order u xs) (each_of u (Comparable t x) xs all.0) ∙ ap (inserted t x) (order_after u xs all.1)

  -- rows that rise are in order
  pub stays : (xs : List X) → rises t xs ≡ true → in_order t xs ≡ xs
  stays [] e = refl
  stays (x ∷ xs) e =
      let parts = and_parts (list_all (t x) xs) (rises t xs) e in
      ap (inserted t x) (stays xs parts.1) ∙ first_stays x xs (turned xs parts.0)
    where
      turned : (ys : List X) → list_all (t x) ys ≡ true → list_all (λ y. not (t y x)) ys ≡ true
      turned [] e' = refl
      turned (y ∷ ys) e' =
          let parts = and_parts (t x y) (list_all (t x) ys) e' in
          and_from (not (t y x)) (list_all (λ z. not (t z x)) ys) (ap not (is.one_way x y parts.0)) (turned ys parts.1)
