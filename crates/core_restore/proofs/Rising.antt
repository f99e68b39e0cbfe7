-- Lists that rise by a test that passes on: neighbours tell.
use Rattle.std.proofs.Common.{◌≡◌, ℕ, zero, suc, ◌<◌, ◌≤◌, ◌+◌, ◌-◌, Bool, true, false, ◌&&◌, List, [], ◌∷◌, ◌++◌, drop, get_or, length, nat_lt, refl, sym, ap, ◌∙◌, arith}
use Rattle.std.specs.Prelude.{slice_index_or}
use Rattle.std.specs.List.{list_all}
use Rattle.std.proofs.Math.Seq.{drop-cons}
use Rattle.std.proofs.lemmas.Bool.{and_parts, and_from, false≢true, lt-ltb}
use Rattle.media_rows.specs.declared.row.Row.{Row}
use Rattle.media_rows.specs.Lists.{rises}
use Rattle.media_rows.specs.Snapshot.{row_before}
use Rattle.media_rows.proofs.RowLemmas.{rows_pass}
use Rattle.delete_work.proofs.Orders.{through}

module _ {X : Type 0} (t : X → X → Bool) (passes : (a b c : X) → t a b ≡ true → t b c ≡ true → t a c ≡ true) where
  all_behind : (a b : X) (xs : List X) → t a b ≡ true → list_all (t b) xs ≡ true → list_all (t a) xs ≡ true
  all_behind a b [] e all = refl
  all_behind a b (x ∷ xs) e all =
      let parts = and_parts (t b x) (list_all (t b) xs) all in
      and_from (t a x) (list_all (t a) xs) (passes a b x e parts.0) (all_behind a b xs e parts.1)

  -- items rise where the first one stands before the second, and those behind the first one rise
  next_tells : (a b : X) (xs : List X) → rises t (a ∷ b ∷ xs) ≡ (t a b && rises t (b ∷ xs))
  next_tells a b xs = by (t a b) (list_all (t a) xs) (list_all (t b) xs) (rises t xs) (all_behind a b xs)
    where
      by : (p r q s : Bool) → (p ≡ true → q ≡ true → r ≡ true) → ((p && r) && (q && s)) ≡ (p && (q && s))
      by true true q s h = refl
      by true false true s h = absurd (false≢true (h refl refl))
      by true false false s h = refl
      by false r q s h = refl

  -- where it does, what is behind the first one tells
  pub next_passes : (a b : X) (xs : List X) → t a b ≡ true → rises t (a ∷ b ∷ xs) ≡ rises t (b ∷ xs)
  next_passes a b xs e = next_tells a b xs ∙ ap (λ p. p && rises t (b ∷ xs)) e

-- of numbers that are left, the first one stands behind the last of those that came
pub one_less : (last i next : ℕ) (all : List ℕ) → i < length all → last < slice_index_or all i 0
    → rises nat_lt (last ∷ (drop i all ++ next ∷ [])) ≡ rises nat_lt (slice_index_or all i 0 ∷ (drop (i + 1) all ++ next ∷ []))
one_less last i next all lt below =
    let more : suc i ≡ i + 1 = omega arith in
    let here : drop i all ≡ slice_index_or all i 0 ∷ drop (i + 1) all = drop-cons all i 0 lt ∙ ap (λ k. slice_index_or all i 0 ∷ drop k all) more in
    ap (λ l. rises nat_lt (last ∷ (l ++ next ∷ []))) here
    ∙ next_passes nat_lt through last (slice_index_or all i 0) (drop (i + 1) all ++ next ∷ []) (lt-ltb last (slice_index_or all i 0) below)

-- ---- rows of a snapshot

-- two neighbours, and what stands behind them
neighbours : {X : Type 0} (xs : List X) (i : ℕ) (a b : X) → 0 < i → i < length xs → a ≡ get_or xs (i - 1) a → b ≡ get_or xs i b
    → drop (i - 1) xs ≡ a ∷ b ∷ drop (i + 1) xs
neighbours xs zero a b some lt first second = absurd (omega (arith, some))
neighbours xs (suc i) a b some lt first second =
    let more : suc (suc i) ≡ suc i + 1 = omega arith in
    let less : suc i - 1 ≡ i = omega arith in
    ap (λ k. drop k xs) less ∙ drop-cons xs i a (omega (arith, lt)) ∙ ap (λ x. x ∷ drop (suc i) xs) (sym (first ∙ ap (λ k. get_or xs k a) less))
    ∙ ap (λ l. a ∷ l) (drop-cons xs (suc i) b lt ∙ ap (λ x. x ∷ drop (suc (suc i)) xs) (sym second) ∙ ap (λ k. b ∷ drop k xs) more)

last_two : {X : Type 0} (xs : List X) (i : ℕ) (b : X) → i < length xs → b ≡ get_or xs i b → b ∷ drop (i + 1) xs ≡ drop i xs
last_two xs i b lt is =
    let more : i + 1 ≡ suc i = omega arith in
    ap (λ k. b ∷ drop k xs) more ∙ ap (λ x. x ∷ drop (suc i) xs) is ∙ sym (drop-cons xs i b lt)

-- a row that stands behind the one before it
pub rows_go_on : (xs : List Row) (i : ℕ) (a b : Row) → 0 < i → i < length xs → a ≡ get_or xs (i - 1) a → b ≡ get_or xs i b
    → rises row_before xs ≡ rises row_before (drop (i - 1) xs) → row_before a b ≡ true → rises row_before xs ≡ rises row_before (drop i xs)
rows_go_on xs i a b some lt first second so_far e =
    so_far ∙ ap (rises row_before) (neighbours xs i a b some lt first second) ∙ next_passes row_before rows_pass a b (drop (i + 1) xs) e
    ∙ ap (rises row_before) (last_two xs i b lt second)

-- one row alone, and none, rise
pub rows_done : (xs : List Row) (i : ℕ) → length xs ≤ i + 1 → rises row_before (drop i xs) ≡ true
rows_done [] zero le = refl
rows_done [] (suc i) le = refl
rows_done (x ∷ []) zero le = refl
rows_done (x ∷ y ∷ xs) zero le = absurd (omega (arith, le))
rows_done (x ∷ xs) (suc i) le = rows_done xs i (omega (arith, le))
