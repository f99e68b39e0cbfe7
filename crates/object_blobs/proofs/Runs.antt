-- Blocks that all pass a test, and the least number that passes one.
use Rattle.std.proofs.Common.{◌≡◌, ◌⊎◌, inl, inr, ℕ, zero, suc, ◌+◌, ◌<◌, ◌≤◌, ◌-◌, Bool, true, false, cond, [], ◌∷◌, Option, Some, None, refl, sym, ap, ◌∙◌, arith}
use Rattle.std.specs.Option.{option_or}
use Rattle.std.specs.Prelude.{find}
use Rattle.std.specs.List.{list_all}
use Rattle.std.proofs.lemmas.Bool.{and_from, and_parts, cases_eq}
use Rattle.std.proofs.lemmas.List.Folds.{find-append, list_all-append}
use Rattle.media_rows.specs.Lists.{numbers_below}
use Rattle.object_blobs.specs.Holes.{each_block}

-- what all numbers below another pass, each of them passes
all_at : (p : ℕ → Bool) (n i : ℕ) → list_all p (numbers_below n) ≡ true → i < n → p i ≡ true
unfolding numbers_below
all_at p zero i h lt = absurd (omega arith)
all_at p (suc n) i h lt =
    let both = and_parts (list_all p (numbers_below n)) (list_all p (n ∷ [])) (sym (list_all-append p (numbers_below n) (n ∷ [])) ∙ h) in
    let own = and_parts (p n) true both.1 in
    elim (cases_eq i n) [ inl same ↦ ap p same ∙ own.0 | inr other ↦ all_at p n i both.0 (omega arith) ]

pub all_from : (p : ℕ → Bool) (n : ℕ) → ((i : ℕ) → i < n → p i ≡ true) → list_all p (numbers_below n) ≡ true
unfolding numbers_below
all_from p zero h = refl
all_from p (suc n) h =
    list_all-append p (numbers_below n) (n ∷ [])
    ∙ and_from (list_all p (numbers_below n)) (list_all p (n ∷ [])) (all_from p n (λ i lt. h i (omega arith))) (and_from (p n) true (h n (omega arith)) refl)

pub each_at : (test : ℕ → Bool) (count start block : ℕ) → each_block test count start ≡ true → start ≤ block → block < start + count → test block ≡ true
each_at test count start block h low high =
    let i : ℕ = block - start in
    ap test (omega arith) ∙ all_at (λ k. test (start + k)) count i h (omega arith)

pub each_from : (test : ℕ → Bool) (count start : ℕ) → ((block : ℕ) → start ≤ block → block < start + count → test block ≡ true)
    → each_block test count start ≡ true
each_from test count start h = all_from (λ k. test (start + k)) count (λ i lt. h (start + i) (omega arith) (omega arith))

-- ---- the least number that passes

none_passes : (p : ℕ → Bool) (n : ℕ) → ((i : ℕ) → i < n → p i ≡ false) → find p (numbers_below n) ≡ None
unfolding numbers_below
none_passes p zero h = refl
none_passes p (suc n) h =
    find-append p (numbers_below n) (n ∷ [])
    ∙ rw (none_passes p n (λ i lt. h i (omega arith)), h n (omega arith)) refl

pub find_none : (p : ℕ → Bool) (n : ℕ) → ((i : ℕ) → i < n → p i ≡ false) → find p (numbers_below n) ≡ None
find_none p n h = none_passes p n h

pub find_least : (p : ℕ → Bool) (n least : ℕ) → least < n → p least ≡ true → ((i : ℕ) → i < least → p i ≡ false) → find p (numbers_below n) ≡ Some least
unfolding numbers_below
find_least p zero least lt here before = absurd (omega arith)
find_least p (suc n) least lt here before = find-append p (numbers_below n) (n ∷ []) ∙ by (cases_eq least n) (λ below. find_least p n least below here before)
  where
    by : (least ≡ n) ⊎ (least ≡ n → ⊥) → (least < n → find p (numbers_below n) ≡ Some least) → option_or (find p (numbers_below n)) (find p (n ∷ [])) ≡ Some
        least
    by (inl same) rest = rw (none_passes p n (λ i below. before i (omega arith)), sym same, here) refl
    by (inr other) rest = rw (rest (omega arith)) refl

-- tests that are the same below a number find the same
pub find_same : (p q : ℕ → Bool) (n : ℕ) → ((i : ℕ) → i < n → p i ≡ q i) → find p (numbers_below n) ≡ find q (numbers_below n)
unfolding numbers_below
find_same p q zero h = refl
find_same p q (suc n) h =
    find-append p (numbers_below n) (n ∷ [])
    ∙ rw (find_same p q n (λ i lt. h i (omega arith)), h n (omega arith)) (sym (find-append q (numbers_below n) (n ∷ [])))

-- what is found passes, and is below the number
pub found_passes : (p : ℕ → Bool) (n least : ℕ) → find p (numbers_below n) ≡ Some least → (p least ≡ true) × (least < n)
unfolding numbers_below
found_passes p zero least e = absurd (grind (arith, e))
found_passes p (suc n) least e = by (find p (numbers_below n)) refl (p n) refl (sym (find-append p (numbers_below n) (n ∷ [])) ∙ e)
    (λ k is. found_passes p n k is)
  where
    by : (o : Option ℕ) → find p (numbers_below n) ≡ o → (b : Bool) → p n ≡ b → option_or (find p (numbers_below n)) (cond (p n) (Some n) None) ≡ Some least
        → ((k : ℕ) → find p (numbers_below n) ≡ Some k → (p k ≡ true) × (k < n)) → (p least ≡ true) × (least < suc n)
    by (Some k) is b at e' rest =
        let same : k ≡ least = grind (arith, rw is at e') in
        let found = rest k is in
        (ap p (sym same) ∙ found.0, omega (arith, found.1, same))
    by None is true at e' rest = let same : n ≡ least = grind (arith, rw (is, at) at e') in (ap p (sym same) ∙ at, omega (arith, same))
    by None is false at e' rest = absurd (grind (arith, rw (is, at) at e'))
