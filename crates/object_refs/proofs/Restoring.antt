-- Books from rows: objects that are put at their places, and references that come one after the other.
use Rattle.std.proofs.Common.{◌≡◌, ℕ, ◌<◌, ℤ, pos, ◌<ℤ◌, int_eq, int_lt, ◌==◌, nat_lt, Bool, true, false, ◌&&◌, ◌||◌, cond, List, [], ◌∷◌, ◌++◌, None, is_some, refl, sym, ap, subst, ◌∙◌, arith}
use Rattle.std.specs.List.{AllByRecursion}
use Rattle.std.proofs.lemmas.Int.{ints}
use Rattle.std.proofs.lemmas.Bool.Decides.{nat_tests}
use Rattle.media_rows.specs.declared.object.ObjectRow.{ObjectRow}
use Rattle.shared_tree.specs.Pairs.{IsRising, is_at, value_at, values, with_pair}
use Rattle.shared_tree.specs.Rows.{IsKeyedBy}
use Rattle.shared_tree.proofs.Rising.{Around, filter_none, put_left, put_right}
use Rattle.object_refs.specs.declared.kept.Kept.{Kept}
use Rattle.object_refs.specs.References.{are_below}
use Rattle.object_refs.specs.Within.Books.{bare, has_serial, kept_key, with_new_object}
use Rattle.object_refs.proofs.Looks.{is_lower, is_same, not_lower, same_is}

-- ---- serials

serial_tests : (serial : ℕ) (rows : List (ℤ × Kept)) → IsKeyedBy kept_key rows → has_serial serial (values rows) ≡ false
    → AllByRecursion (λ p. is_at (pos serial) p ≡ false) rows
serial_tests serial [] keyed e = tt
serial_tests serial (p ∷ rows) keyed e = by (p.1.row.serial == serial) (has_serial serial (values rows)) refl refl e (λ f. serial_tests serial rows keyed.1 f)
  where
    differs : (a b : ℕ) → (a == b) ≡ false → int_eq (pos a) (pos b) ≡ false
    differs a b f = by' (int_eq (pos a) (pos b)) refl
      where
        by' : (t : Bool) → int_eq (pos a) (pos b) ≡ t → int_eq (pos a) (pos b) ≡ false
        by' true g = absurd (let same = same_is (pos a) (pos b) g in let eq : a ≡ b = omega (arith, ints, same) in grind (arith, nat_tests))
        by' false g = g

    by : (t r : Bool) → (p.1.row.serial == serial) ≡ t → has_serial serial (values rows) ≡ r → (t || r) ≡ false
        → (has_serial serial (values rows) ≡ false → AllByRecursion (λ q. is_at (pos serial) q ≡ false) rows)
        → AllByRecursion (λ q. is_at (pos serial) q ≡ false) (p ∷ rows)
    by true r et er f ih = absurd (grind (arith, f))
    by false true et er f ih = absurd (grind (arith, f))
    by false false et er f ih = (ap (λ k. int_eq k (pos serial)) keyed.0 ∙ differs p.1.row.serial serial et, ih er)

pub serial_none : (serial : ℕ) (rows : List (ℤ × Kept)) → IsKeyedBy kept_key rows → has_serial serial (values rows) ≡ false → value_at (pos serial) rows ≡ None
serial_none serial rows keyed e = rw (filter_none (is_at (pos serial)) rows (serial_tests serial rows keyed e)) refl

same_serial : (a b : ℕ) → int_eq (pos a) (pos b) ≡ (a == b)
same_serial a b = by (int_eq (pos a) (pos b)) (a == b) refl refl
  where
    by : (s t : Bool) → int_eq (pos a) (pos b) ≡ s → (a == b) ≡ t → int_eq (pos a) (pos b) ≡ (a == b)
    by true true es et = es ∙ sym et
    by false false es et = es ∙ sym et
    by true false es et = absurd (let same = same_is (pos a) (pos b) es in let eq : a ≡ b = omega (arith, ints, same) in grind (arith, nat_tests))
    by false true es et = absurd (let eq : a ≡ b = grind (arith, nat_tests) in let yes = is_same (pos a) (pos b) (ap (λ n. pos n) eq) in grind (arith, yes, es))

pub serial_seen : (serial : ℕ) (rows : List (ℤ × Kept)) → IsKeyedBy kept_key rows → is_some (value_at (pos serial) rows) ≡ has_serial serial (values rows)
serial_seen serial [] keyed = refl
serial_seen serial (p ∷ rows) keyed = by (is_at (pos serial) p) refl (serial_seen serial rows keyed.1)
  where
    by : (t : Bool) → is_at (pos serial) p ≡ t → is_some (value_at (pos serial) rows) ≡ has_serial serial (values rows)
        → is_some (value_at (pos serial) (p ∷ rows)) ≡ ((p.1.row.serial == serial) || has_serial serial (values rows))
    by true e ih = rw (e, sym (same_serial p.1.row.serial serial) ∙ ap (λ k. int_eq k (pos serial)) (sym keyed.0) ∙ e) refl
    by false e ih = rw (e, sym (same_serial p.1.row.serial serial) ∙ ap (λ k. int_eq k (pos serial)) (sym keyed.0) ∙ e) ih

-- ---- a new object at its place

first_around : (p : ℤ × Kept) (rest : List (ℤ × Kept)) → IsRising (p ∷ rest) → Around [] p rest
first_around p rest rising = record { left = tt; right = rising.1; before = tt; behind = rising.0 }

lower_serial : (a b : ℕ) → pos a <ℤ pos b → nat_lt a b ≡ true
lower_serial a b lt = let l : a < b = omega (arith, ints, lt) in grind (arith, nat_tests)

higher_serial : (a b : ℕ) → pos b <ℤ pos a → nat_lt a b ≡ false
higher_serial a b lt = let l : b < a = omega (arith, ints, lt) in grind (arith, nat_tests)

pub put_row : (row : ObjectRow) (rows next : List (ℤ × Kept)) → IsRising rows → IsKeyedBy kept_key rows → has_serial row.serial (values rows) ≡ false
    → next ≡ with_pair (pos row.serial, bare row) rows → values next ≡ with_new_object row (values rows)
put_row row rows next rising keyed fresh is = ap values is ∙ places rows rising keyed fresh
  where
    places : (ps : List (ℤ × Kept)) → IsRising ps → IsKeyedBy kept_key ps → has_serial row.serial (values ps) ≡ false
        → values (with_pair (pos row.serial, bare row) ps) ≡ with_new_object row (values ps)
    places [] up k f = refl
    places (p ∷ rest) up k f =
        by (int_lt p.0 (pos row.serial)) (int_lt (pos row.serial) p.0) refl refl (serial_tests row.serial (p ∷ rest) k f) (λ g. places rest up.1 k.1 g)
      where
        or_false : (a b : Bool) → (a || b) ≡ false → b ≡ false
        or_false true b e = absurd (grind (arith, e))
        or_false false b e = e

        by : (b a : Bool) → int_lt p.0 (pos row.serial) ≡ b → int_lt (pos row.serial) p.0 ≡ a
            → AllByRecursion (λ q. is_at (pos row.serial) q ≡ false) (p ∷ rest)
            → (has_serial row.serial (values rest) ≡ false → values (with_pair (pos row.serial, bare row) rest) ≡ with_new_object row (values rest))
            → values (with_pair (pos row.serial, bare row) (p ∷ rest)) ≡ with_new_object row (values (p ∷ rest))
        by true a eb ea others ih =
            let lt = is_lower p.0 (pos row.serial) eb in
            ap values (put_right (pos row.serial) (bare row) [] p rest (first_around p rest up) lt)
            ∙ rw (lower_serial p.1.row.serial row.serial (subst (λ z. z <ℤ pos row.serial) k.0 lt))
            (ap (λ l. p.1 ∷ l) (ih (or_false (p.1.row.serial == row.serial) (has_serial row.serial (values rest)) f)))
        by false true eb ea others ih =
            let lt = is_lower (pos row.serial) p.0 ea in
            ap values (put_left (pos row.serial) (bare row) [] p rest (first_around p rest up) lt)
            ∙ rw (higher_serial p.1.row.serial row.serial (subst (λ z. pos row.serial <ℤ z) k.0 lt)) refl
        by false false eb ea others ih =
            absurd (let same = is_same p.0 (pos row.serial) (not_lower p.0 (pos row.serial) eb ea) in let f' = others.0 in grind (arith, same, f'))

-- one whose serial is above all others stands at the end
pub put_last : (row : ObjectRow) (kept : List Kept) → are_below row.serial kept ≡ true → with_new_object row kept ≡ kept ++ bare row ∷ []
put_last row [] e = refl
put_last row (k ∷ kept) e = by (nat_lt k.row.serial row.serial) e (put_last row kept)
  where
    by : (t : Bool) → (t && are_below row.serial kept) ≡ true → (are_below row.serial kept ≡ true → with_new_object row kept ≡ kept ++ bare row ∷ [])
        → cond t (k ∷ with_new_object row kept) (bare row ∷ k ∷ kept) ≡ k ∷ (kept ++ bare row ∷ [])
    by true f ih = ap (λ l. k ∷ l) (ih f)
    by false f ih = absurd (grind (arith, f))

pub below_fresh : (serial : ℕ) (kept : List Kept) → are_below serial kept ≡ true → has_serial serial kept ≡ false
below_fresh serial [] e = refl
below_fresh serial (k ∷ kept) e = by (nat_lt k.row.serial serial) (k.row.serial == serial) refl refl e (below_fresh serial kept)
  where
    by : (t s : Bool) → nat_lt k.row.serial serial ≡ t → (k.row.serial == serial) ≡ s → (t && are_below serial kept) ≡ true
        → (are_below serial kept ≡ true → has_serial serial kept ≡ false) → (s || has_serial serial kept) ≡ false
    by true true et es f ih = absurd (grind (arith, nat_tests))
    by true false et es f ih = ih f
    by false s et es f ih = absurd (grind (arith, f))
