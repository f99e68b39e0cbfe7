-- What filters keep, also of items in order.
use Rattle.std.proofs.Common.{◌≡◌, Bool, true, false, cond, ◌&&◌, List, [], ◌∷◌, filter, refl, ap, ◌∙◌, arith}
use Rattle.std.specs.List.{All, Contains}
use Rattle.std.specs.List.Sorted.{IsPermutation}
use Rattle.std.proofs.lemmas.Bool.{false≢true}
use Rattle.std.proofs.lemmas.List.Elements.{All-cons, All-contains, All-contains_itself, All-filter, All-nil, All-weaker, Contains-append_right, filter_passes}
use Rattle.std.proofs.lemmas.List.Sorted.{IsPermutation-cons, IsPermutation-middle, IsPermutation-refl, IsPermutation-trans}
use Rattle.media_rows.specs.Lists.{in_order, inserted}

-- ---- members

-- a member stays one where an item may come in front
stays : {X : Type 0} (b : Bool) (y : X) (ys : List X) (x : X) → Contains ys x
    → Contains (cond b (y ∷ ys) ys) x
stays true y ys x has = Contains-append_right (y ∷ []) ys x has
stays false y ys x has = has

-- and that item is one where it does
comes : {X : Type 0} (b : Bool) (y : X) (ys : List X) → b ≡ true → Contains (cond b (y ∷ ys) ys) y
comes true y ys e = (0, omega arith, refl)
comes false y ys e = absurd (false≢true e)

-- a filter has each member that passes
filter_has_all : {X : Type 0} (p : X → Bool) (xs : List X)
    → All (λ x. p x ≡ true → Contains (filter p xs) x) xs
filter_has_all {X} p [] = All-nil (λ x. p x ≡ true → Contains {X = X} [] x)
filter_has_all {X} p (y ∷ ys) =
    All-cons (λ x. p x ≡ true → Contains (filter p (y ∷ ys)) x) y ys (comes (p y) y (filter p ys))
    (All-weaker (λ x. p x ≡ true → Contains (filter p ys) x)
    (λ x. p x ≡ true → Contains (filter p (y ∷ ys)) x)
    (λ x has e. stays (p y) y (filter p ys) x (has e)) ys (filter_has_all p ys))

-- the same of one of them
pub filter_has : {X : Type 0} (p : X → Bool) (xs : List X) (x : X) → Contains xs x → p x ≡ true
    → Contains (filter p xs) x
filter_has p xs x has e =
    All-contains (λ z. p z ≡ true → Contains (filter p xs) z) xs x (filter_has_all p xs) has e

-- and has no others
pub filter_had : {X : Type 0} (p : X → Bool) (xs : List X) (x : X) → Contains (filter p xs) x
    → Contains xs x × (p x ≡ true)
filter_had p xs x has =
    let members = All-filter p (Contains xs) xs (All-contains_itself xs) in
    let was = All-contains (Contains xs) (filter p xs) x members has in
    (was, All-contains (λ z. p z ≡ true) (filter p xs) x (filter_passes p xs) has)

-- ---- items in order

-- two items in front change places, where each of them is there
changed : {X : Type 0} (x y : X) (a b : Bool) (zs us : List X)
    → IsPermutation (cond a (x ∷ zs) zs) us
    → IsPermutation (cond a (x ∷ cond b (y ∷ zs) zs) (cond b (y ∷ zs) zs)) (cond b (y ∷ us) us)
changed x y true true zs us moves =
    IsPermutation-trans (x ∷ y ∷ zs) (y ∷ x ∷ zs) (y ∷ us) (IsPermutation-middle (x ∷ []) y zs)
    (IsPermutation-cons y (x ∷ zs) us moves)
changed x y false true zs us moves = IsPermutation-cons y zs us moves
changed x y true false zs us moves = moves
changed x y false false zs us moves = moves

-- a filter of items among which one was put has what it has of that one in front of them
filter-inserted : {X : Type 0} (before : X → X → Bool) (p : X → Bool) (x : X) (ys : List X)
    → IsPermutation (filter p (x ∷ ys)) (filter p (inserted before x ys))
filter-inserted before p x [] = IsPermutation-refl (filter p (x ∷ []))
filter-inserted {X} before p x (y ∷ ys) = by (before y x) (filter-inserted before p x ys)
  where
    behind : List X
    behind = inserted before x ys

    by : (b : Bool) → IsPermutation (filter p (x ∷ ys)) (filter p behind)
        → IsPermutation (filter p (x ∷ y ∷ ys)) (filter p (cond b (y ∷ behind) (x ∷ y ∷ ys)))
    by true moves = changed x y (p x) (p y) (filter p ys) (filter p behind) moves
    by false moves = IsPermutation-refl (filter p (x ∷ y ∷ ys))

-- the same item in front, where it is there
before_both : {X : Type 0} (b : Bool) (x : X) (ys zs : List X) → IsPermutation ys zs
    → IsPermutation (cond b (x ∷ ys) ys) (cond b (x ∷ zs) zs)
before_both true x ys zs moves = IsPermutation-cons x ys zs moves
before_both false x ys zs moves = moves

-- a filter of items in order has what it has of them as they stand
pub filter-in_order : {X : Type 0} (before : X → X → Bool) (p : X → Bool) (xs : List X)
    → IsPermutation (filter p xs) (filter p (in_order before xs))
filter-in_order before p [] = IsPermutation-refl []
filter-in_order before p (x ∷ xs) =
    let behind = in_order before xs in
    IsPermutation-trans (filter p (x ∷ xs)) (filter p (x ∷ behind))
    (filter p (inserted before x behind))
    (before_both (p x) x (filter p xs) (filter p behind) (filter-in_order before p xs))
    (filter-inserted before p x behind)

-- ---- filters one behind another

-- an item that doesn't pass is left out
left_out : {X : Type 0} (b : Bool) (x : X) (xs : List X) → (b ≡ true → false ≡ true)
    → cond b (x ∷ xs) xs ≡ xs
left_out true x xs fails = absurd (false≢true (fails refl))
left_out false x xs fails = refl

-- of one more item, a filter that a later one makes needless
needless : {X : Type 0} (p : X → Bool) (passes : Bool) (x : X) (xs ys : List X)
    → (p x ≡ true → passes ≡ true) → xs ≡ filter p ys
    → cond (p x) (x ∷ xs) xs ≡ filter p (cond passes (x ∷ ys) ys)
needless p true x xs ys implied e = ap (λ zs. cond (p x) (x ∷ zs) zs) e
needless p false x xs ys implied e = left_out (p x) x xs implied ∙ e

-- of one more item, three filters of which the outer ones imply the one between
pub three_filters : {X : Type 0} (p q : X → Bool) (b : Bool) (x : X) (xs ys : List X)
    → ((b && p x) ≡ true → q x ≡ true) → xs ≡ filter p (filter q ys)
    → cond (b && p x) (x ∷ xs) xs ≡ filter p (filter q (cond b (x ∷ ys) ys))
three_filters p q true x xs ys implied e = needless p (q x) x xs (filter q ys) implied e
three_filters p q false x xs ys implied e = e
