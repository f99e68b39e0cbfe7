-- Filters of lists, and the last of some items.
use Rattle.std.proofs.Common.{◌≡◌, ◌≤◌, ◌<◌, ◌+◌, inl, inr, ℕ, zero, suc, Bool, true, false, cond, List, [], ◌∷◌, ◌++◌, Some, filter, length, take, refl, sym, ap, ◌∙◌, arith, length-append}
use Rattle.std.proofs.lemmas.Bool.{false≢true}
use Rattle.std.proofs.lemmas.Bool.Decides.{leb_tells}
use Rattle.library_laws.proofs.ListLemmas.{In, count-same}
use Rattle.run_history.specs.Steps.{last_or}
use Rattle.shared_tree.specs.Pairs.{first}

some_is : {X : Type 0} (x y : X) → Some x ≡ Some y → x ≡ y
some_is x y e = grind arith

pub first_In : {X : Type 0} (xs : List X) (x : X) → first xs ≡ Some x → In x xs
first_In [] x e = absurd cc
first_In (y ∷ ys) x e = inl (sym (some_is y x e))

-- ---- filters

pub filter_yes : {X : Type 0} (p : X → Bool) (x : X) (xs : List X) → p x ≡ true → filter p (x ∷ xs) ≡ x ∷ filter p xs
filter_yes p x xs e = ap (λ (b : Bool). cond b (x ∷ filter p xs) (filter p xs)) e

pub filter_no : {X : Type 0} (p : X → Bool) (x : X) (xs : List X) → p x ≡ false → filter p (x ∷ xs) ≡ filter p xs
filter_no p x xs e = ap (λ (b : Bool). cond b (x ∷ filter p xs) (filter p xs)) e

pub filter_whole : {X : Type 0} (p : X → Bool) (xs : List X) → ((x : X) → In x xs → p x ≡ true) → filter p xs ≡ xs
filter_whole p [] h = refl
filter_whole p (x ∷ xs) h = filter_yes p x xs (h x (inl refl)) ∙ ap (λ ys. x ∷ ys) (filter_whole p xs (λ y later. h y (inr later)))

-- two filters in either order
pub filter_swap : {X : Type 0} (p q : X → Bool) (xs : List X) → filter p (filter q xs) ≡ filter q (filter p xs)
filter_swap p q [] = refl
filter_swap p q (x ∷ xs) = by (p x) (q x) refl refl (filter_swap p q xs)
  where
    by : (a b : Bool) → p x ≡ a → q x ≡ b → filter p (filter q xs) ≡ filter q (filter p xs) → filter p (filter q (x ∷ xs)) ≡ filter q (filter p (x ∷ xs))
    by true true is also rest =
        ap (filter p) (filter_yes q x xs also) ∙ filter_yes p x (filter q xs) is ∙ ap (λ ys. x ∷ ys) rest
        ∙ sym (ap (filter q) (filter_yes p x xs is) ∙ filter_yes q x (filter p xs) also)
    by true false is also rest =
        ap (filter p) (filter_no q x xs also) ∙ rest ∙ sym (ap (filter q) (filter_yes p x xs is) ∙ filter_no q x (filter p xs) also)
    by false true is also rest =
        ap (filter p) (filter_yes q x xs also) ∙ filter_no p x (filter q xs) is ∙ rest ∙ sym (ap (filter q) (filter_no p x xs is))
    by false false is also rest =
        ap (filter p) (filter_no q x xs also) ∙ rest ∙ sym (ap (filter q) (filter_no p x xs is))

pub filter_append : {X : Type 0} (p : X → Bool) (xs ys : List X) → filter p (xs ++ ys) ≡ filter p xs ++ filter p ys
filter_append p [] ys = refl
filter_append p (x ∷ xs) ys = by (p x) refl (filter_append p xs ys)
  where
    by : (b : Bool) → p x ≡ b → filter p (xs ++ ys) ≡ filter p xs ++ filter p ys → filter p (x ∷ (xs ++ ys)) ≡ filter p (x ∷ xs) ++ filter p ys
    by true is rest =
        filter_yes p x (xs ++ ys) is ∙ ap (λ zs. x ∷ zs) rest ∙ sym (ap (λ zs. zs ++ filter p ys) (filter_yes p x xs is))
    by false is rest = filter_no p x (xs ++ ys) is ∙ rest ∙ sym (ap (λ zs. zs ++ filter p ys) (filter_no p x xs is))

-- a test that passes fewer items
pub filter_fewer : {X : Type 0} (p q : X → Bool) (xs : List X) (x : X) → ((y : X) → In y xs → p y ≡ true → q y ≡ true) → In x xs → q x ≡ true
    → p x ≡ false → length (filter p xs) < length (filter q xs)
filter_fewer p q xs x weaker here passes fails =
    elim (leb_tells (length (filter q xs)) (length (filter p xs))) [
      | inl all ↦ absurd (false≢true (sym fails ∙ count-same p q xs weaker all.1 x here passes))
      | inr some ↦ some.1
    ]

-- ---- the last of some items

pub last_more : {X : Type 0} (s : X) (xs : List X) (next : X) → last_or s (xs ++ next ∷ []) ≡ next
last_more s [] next = refl
last_more s (x ∷ xs) next = last_more x xs next

-- the first ones of a longer list
pub take_front : {X : Type 0} (n : ℕ) (xs ys : List X) → n ≤ length xs → take n (xs ++ ys) ≡ take n xs
take_front zero xs ys le = refl
take_front (suc n) [] ys le = absurd (omega (arith, le))
take_front (suc n) (x ∷ xs) ys le = ap (λ zs. x ∷ zs) (take_front n xs ys (omega (arith, le)))

pub take_length : {X : Type 0} (xs : List X) → take (length xs) xs ≡ xs
take_length [] = refl
take_length (x ∷ xs) = ap (λ zs. x ∷ zs) (take_length xs)

pub length_more : {X : Type 0} (xs : List X) (x : X) → length (xs ++ x ∷ []) ≡ length xs + 1
length_more xs x = length-append xs (x ∷ [])
