-- Lists that don't fall by a key, cut behind one of their items.
use Rattle.std.proofs.Common.{◌≡◌, ◌∙◌, ◌≤◌, ◌<◌, inl, inr, ℕ, zero, suc, ℤ, Bool, true, false, not, cond, List, [], ◌∷◌, ◌++◌, filter, take, slice_get, Some, refl, sym, ap, subst, arith}
use Rattle.std.specs.Prelude.{int_lt}
use Rattle.std.specs.List.{list_all}
use Rattle.std.proofs.lemmas.Bool.{and_parts, cond-true, cond-false, not-true, true≢false}
use Rattle.std.proofs.lemmas.Int.{ints}
use Rattle.media_rows.specs.Lists.{rises}
use Rattle.library_laws.proofs.ListLemmas.{In, list_all-In, list_all-from_In}
use Rattle.library_laws.proofs.FollowLemmas.{filter-whole}

-- no item stands before one with a lesser key
abbrev pub NoneFalls : {X : Type 0} → (X → ℤ) → List X → Type 0
NoneFalls key xs = rises (λ a b. not (int_lt (key b) (key a))) xs ≡ true

-- an item of the list stands at the place
pub slice_get-In : {X : Type 0} (xs : List X) (i : ℕ) (x : X) → slice_get xs i ≡ Some x → In x xs
slice_get-In [] i x e = absurd (cc)
slice_get-In (y ∷ ys) zero x e = inl (cc)
slice_get-In (y ∷ ys) (suc i) x e = inr (slice_get-In ys i x e)

pub slice_get-take : {X : Type 0} (n : ℕ) (xs : List X) (i : ℕ) → i < n → slice_get (take n xs) i ≡ slice_get xs i
slice_get-take zero xs i e = absurd (omega (arith, e))
slice_get-take (suc n) [] i e = refl
slice_get-take (suc n) (x ∷ xs) zero e = refl
slice_get-take (suc n) (x ∷ xs) (suc i) e = slice_get-take n xs i (omega (arith, e))

pub take-take : {X : Type 0} (m n : ℕ) (xs : List X) → m ≤ n → take m (take n xs) ≡ take m xs
take-take zero n xs e = refl
take-take (suc m) zero xs e = absurd (omega (arith, e))
take-take (suc m) (suc n) [] e = refl
take-take (suc m) (suc n) (x ∷ xs) e = ap (λ l. x ∷ l) (take-take m n xs (omega (arith, e)))

-- two neighbours of a list pass a test that each pair of it passes
pub neighbours : {X : Type 0} (t : X → X → Bool) (xs : List X) (i : ℕ) (a b : X) → rises t xs ≡ true → slice_get xs i ≡ Some a
    → slice_get xs (suc i) ≡ Some b → t a b ≡ true
neighbours t [] i a b rise first second = absurd (cc)
neighbours t (x ∷ []) zero a b rise first second = absurd (cc)
neighbours t (x ∷ y ∷ ys) zero a b rise first second =
    let parts = and_parts (list_all (t x) (y ∷ ys)) (rises t (y ∷ ys)) rise in
    let one = and_parts (t x y) (list_all (t x) ys) parts.0 in
    let left : x ≡ a = cc in
    let right : y ≡ b = cc in
    subst (λ c. t c b ≡ true) left (subst (λ c. t x c ≡ true) right one.0)
neighbours t (x ∷ xs) (suc i) a b rise first second =
    neighbours t xs i a b (and_parts (list_all (t x) xs) (rises t xs) rise).1 first second

no_less : (a b : ℤ) → not (int_lt b a) ≡ true → int_lt b a ≡ false
no_less a b e = not-true (int_lt b a) e

behind_first : (a b c : ℤ) → int_lt a b ≡ true → int_lt c b ≡ false → int_lt a c ≡ true
behind_first a b c e f = grind (arith, ints)

not_behind_itself : (a b : ℤ) → a ≡ b → int_lt b a ≡ false
not_behind_itself a b e = grind (arith, ints)

-- a list that doesn't fall is its items up to a place, and those behind the key of the last one of them, where the next one is behind it
pub cut_behind : {X : Type 0} (key : X → ℤ) (xs : List X) (at : ℕ) (a b : X) → NoneFalls key xs → slice_get xs at ≡ Some a
    → slice_get xs (suc at) ≡ Some b → int_lt (key a) (key b) ≡ true → xs ≡ take (suc at) xs ++ filter (λ x. int_lt (key a) (key x)) xs
cut_behind key [] at a b rise first second less = absurd (cc)
cut_behind key (x ∷ []) zero a b rise first second less = absurd (cc)
cut_behind {X} key (x ∷ y ∷ ys) zero a b rise first second less =
    let parts = and_parts (list_all (λ c. not (int_lt (key c) (key x))) (y ∷ ys)) (rises (λ c d. not (int_lt (key d) (key c))) (y ∷ ys)) rise in
    let later = and_parts (list_all (λ c. not (int_lt (key c) (key y))) ys) (rises (λ c d. not (int_lt (key d) (key c))) ys) parts.1 in
    let left : x ≡ a = cc in
    let right : y ≡ b = cc in
    let test : X → Bool = λ z. int_lt (key a) (key z) in
    let less_y : test y ≡ true = subst (λ c. int_lt (key a) (key c) ≡ true) (sym right) less in
    let whole : list_all test (y ∷ ys) ≡ true = list_all-from_In test (y ∷ ys) (λ z here. elim here [
      | inl same ↦ subst (λ c. test c ≡ true) (sym same) less_y
      | inr there ↦ behind_first (key a) (key y) (key z) less_y
          (no_less (key y) (key z) (list_all-In (λ c. not (int_lt (key c) (key y))) ys later.0 z there))
    ]) in
    ap (λ l. x ∷ l) (sym (cond-false (test x) (x ∷ filter test (y ∷ ys)) (filter test (y ∷ ys)) (not_behind_itself (key x) (key a) (ap key left))
    ∙ filter-whole test (y ∷ ys) whole))
cut_behind {X} key (x ∷ xs) (suc at) a b rise first second less =
    let parts = and_parts (list_all (λ c. not (int_lt (key c) (key x))) xs) (rises (λ c d. not (int_lt (key d) (key c))) xs) rise in
    let test : X → Bool = λ z. int_lt (key a) (key z) in
    let early = no_less (key x) (key a) (list_all-In (λ c. not (int_lt (key c) (key x))) xs parts.0 a (slice_get-In xs at a first)) in
    ap (λ l. x ∷ l) (cut_behind key xs at a b parts.1 first second less
    ∙ ap (λ l. take (suc at) xs ++ l) (sym (cond-false (test x) (x ∷ filter test xs) (filter test xs) early)))

filter-step : {X : Type 0} (p q : X → Bool) (x : X) (xs : List X) (a b : Bool) → p x ≡ a → q x ≡ b → (q x ≡ true → p x ≡ true)
    → filter q (filter p xs) ≡ filter q xs → filter q (filter p (x ∷ xs)) ≡ filter q (x ∷ xs)
filter-step p q x xs true b e f h rest =
    ap (filter q) (cond-true (p x) (x ∷ filter p xs) (filter p xs) e) ∙ ap (λ l. cond (q x) (x ∷ l) l) rest
filter-step p q x xs false true e f h rest = absurd (true≢false (sym (h f) ∙ e))
filter-step p q x xs false false e f h rest =
    ap (filter q) (cond-false (p x) (x ∷ filter p xs) (filter p xs) e) ∙ rest ∙ sym (cond-false (q x) (x ∷ filter q xs) (filter q xs) f)

-- a test after one that it implies
pub filter_implied : {X : Type 0} (p q : X → Bool) (xs : List X) → ((x : X) → q x ≡ true → p x ≡ true) → filter q (filter p xs) ≡ filter q xs
filter_implied p q [] h = refl
filter_implied p q (x ∷ xs) h = filter-step p q x xs (p x) (q x) refl refl (h x) (filter_implied p q xs h)
