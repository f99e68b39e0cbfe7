-- Lists that are put in order item by item.
use Rattle.std.proofs.Common.{◌≡◌, Bool, true, false, cond, if◌then◌else◌, List, [], ◌∷◌, filter, refl, sym, ap, ◌∙◌}
use Rattle.std.specs.List.{AllByRecursion}
use Rattle.media_rows.specs.Lists.{in_order, inserted}
use Rattle.shared_tree.proofs.Counted.{all_kept}
use Rattle.shared_tree.proofs.Rising.{all_map}

-- two that don't stand before one another tie
pub record Orders {X : Type 0} (before : X → X → Bool) : Type 0 where
  pub turned : (a b : X) → before a b ≡ true → before b a ≡ false
  pub through : (x y z : X) → before y x ≡ false → before z y ≡ false → before z x ≡ false

module _ {X : Type 0} (before : X → X → Bool) (orders : Orders before) where
  abbrev pub Sorted : List X → Type 0
  Sorted [] = Unit {0}
  Sorted (x ∷ xs) = AllByRecursion (λ y. before y x ≡ false) xs × Sorted xs

  pub all_inserted : (P : X → Type 0) (x : X) (ys : List X) → P x → AllByRecursion P ys → AllByRecursion P (inserted before x ys)
  all_inserted P x [] h hs = (h, tt)
  all_inserted P x (y ∷ ys) h hs = by (before y x) (all_inserted P x ys h hs.1)
    where
      by : (t : Bool) → AllByRecursion P (inserted before x ys) → AllByRecursion P (cond t (y ∷ inserted before x ys) (x ∷ y ∷ ys))
      by true rest = (hs.0, rest)
      by false rest = (h, hs)

  pub all_ordered : (P : X → Type 0) (xs : List X) → AllByRecursion P xs → AllByRecursion P (in_order before xs)
  all_ordered P [] h = tt
  all_ordered P (x ∷ xs) h = all_inserted P x (in_order before xs) h.0 (all_ordered P xs h.1)

  sorted_inserted : (x : X) (ys : List X) → Sorted ys → Sorted (inserted before x ys)
  sorted_inserted x [] h = (tt, tt)
  sorted_inserted x (y ∷ ys) h = by (before y x) refl (sorted_inserted x ys h.1)
    where
      by : (t : Bool) → before y x ≡ t → Sorted (inserted before x ys) → Sorted (cond t (y ∷ inserted before x ys) (x ∷ y ∷ ys))
      by true e rest = (all_inserted (λ z. before z y ≡ false) x ys (orders.turned y x e) h.0, rest)
      by false e rest = ((e, all_map (λ z. before z y ≡ false) (λ z. before z x ≡ false) (λ z f. orders.through x y z e f) ys h.0), h)

  sorted : (xs : List X) → Sorted (in_order before xs)
  sorted [] = tt
  sorted (x ∷ xs) = sorted_inserted x (in_order before xs) (sorted xs)

  in_front : (x : X) (ys : List X) → AllByRecursion (λ y. before y x ≡ false) ys → inserted before x ys ≡ x ∷ ys
  in_front x [] h = refl
  in_front x (y ∷ ys) h = rw h.0 refl

  kept_inserted : (test : X → Bool) (x : X) (ys : List X) → Sorted ys
      → filter test (inserted before x ys) ≡ (if test x then inserted before x (filter test ys) else filter test ys)
  kept_inserted test x [] h = refl
  kept_inserted test x (y ∷ ys) h = by (before y x) (test x) (test y) refl refl refl (kept_inserted test x ys h.1)
    where
      by : (t s r : Bool) → before y x ≡ t → test x ≡ s → test y ≡ r
          → filter test (inserted before x ys) ≡ (if test x then inserted before x (filter test ys) else filter test ys)
          → filter test (cond t (y ∷ inserted before x ys) (x ∷ y ∷ ys)) ≡ (if s then inserted before x (cond r (y ∷ filter test ys) (filter test ys)) else
          cond r (y ∷ filter test ys) (filter test ys))
      by true true true et es er ih = rw (er, et) (ap (λ l. y ∷ l) (ih ∙ rw es refl))
      by true true false et es er ih = rw er (ih ∙ rw es refl)
      by true false true et es er ih = rw er (ap (λ l. y ∷ l) (ih ∙ rw es refl))
      by true false false et es er ih = rw er (ih ∙ rw es refl)
      by false true true et es er ih = rw (es, er, et) refl
      by false true false et es er ih =
          rw (es, er) (sym (in_front x (filter test ys)
          (all_kept (λ z. before z x ≡ false) test ys (all_map (λ z. before z y ≡ false) (λ z. before z x ≡ false) (λ z f. orders.through x y z et f) ys h.0))))
      by false false true et es er ih = rw (es, er) refl
      by false false false et es er ih = rw (es, er) refl

  -- what is left of some in order stands in order
  pub ordered_kept : (test : X → Bool) (xs : List X) → in_order before (filter test xs) ≡ filter test (in_order before xs)
  ordered_kept test [] = refl
  ordered_kept test (x ∷ xs) =
      by (test x) refl (ordered_kept test xs)
    where
      by : (t : Bool) → test x ≡ t → in_order before (filter test xs) ≡ filter test (in_order before xs)
          → in_order before (cond t (x ∷ filter test xs) (filter test xs)) ≡ filter test (inserted before x (in_order before xs))
      by true e ih = ap (inserted before x) ih ∙ sym (kept_inserted test x (in_order before xs) (sorted xs) ∙ rw e refl)
      by false e ih = ih ∙ sym (kept_inserted test x (in_order before xs) (sorted xs) ∙ rw e refl)

  -- what stands in order is in order
  pub ordered_again : (xs : List X) → in_order before (in_order before xs) ≡ in_order before xs
  ordered_again xs = same (in_order before xs) (sorted xs)
    where
      same : (ys : List X) → Sorted ys → in_order before ys ≡ ys
      same [] h = refl
      same (y ∷ ys) h = ap (inserted before y) (same ys h.1) ∙ in_front y ys h.0
