-- Lists that grow by one part after another.
use Rattle.std.proofs.Common.{◌≡◌, ◌+◌, ℕ, zero, suc, List, [], ◌∷◌, ◌++◌, map, refl, sym, ap, ◌∙◌, add-one, append_assoc}
use Rattle.std.proofs.lemmas.Grind.{flat_map-append}
use Rattle.std.proofs.lemmas.List.{append-nil, map-append}
use Rattle.std.specs.List.{flat_map, repeat}
use Rattle.media_rows.specs.Lists.{numbers_below}

-- a part more behind what stands so far
pub one_behind : (old so_far now parts part more : List ℕ) → so_far ≡ old ++ parts → now ≡ so_far ++ part → more ≡ parts ++ part → now ≡ old ++ more
one_behind old so_far now parts part more stands grows is =
    grows ∙ ap (λ l. l ++ part) stands ∙ append_assoc old parts part ∙ ap (λ l. old ++ l) (sym is)

-- the numbers below the next one
numbers_below_more : (n : ℕ) → numbers_below (n + 1) ≡ numbers_below n ++ n ∷ []
unfolding numbers_below
numbers_below_more n = rw add-one refl

-- what each number gives, and one number more
pub map_more : (f : ℕ → ℕ) (n : ℕ) → map f (numbers_below (n + 1)) ≡ map f (numbers_below n) ++ f n ∷ []
map_more f n = ap (map f) (numbers_below_more n) ∙ map-append f (numbers_below n) (n ∷ [])

-- the same of lists that are joined
pub flat_map_more : (f : ℕ → List ℕ) (n : ℕ) → flat_map f (numbers_below (n + 1)) ≡ flat_map f (numbers_below n) ++ f n
flat_map_more f n =
    ap (flat_map f) (numbers_below_more n) ∙ flat_map-append f (numbers_below n) (n ∷ []) ∙ ap (λ l. flat_map f (numbers_below n) ++ l) (append-nil (f n))

-- nothing stands below zero
pub none_below : numbers_below 0 ≡ []
unfolding numbers_below
none_below = refl

-- a list once more stands at the end as well as at the front
repeat_behind : (n : ℕ) (xs : List ℕ) → repeat (suc n) xs ≡ repeat n xs ++ xs
repeat_behind zero xs = append-nil xs
repeat_behind (suc n) xs = ap (λ l. xs ++ l) (repeat_behind n xs) ∙ sym (append_assoc xs (repeat n xs) xs)

-- a list as many times, and once more
pub repeat_more : (n : ℕ) (xs : List ℕ) → repeat (n + 1) xs ≡ repeat n xs ++ xs
repeat_more n xs = rw add-one (repeat_behind n xs)
