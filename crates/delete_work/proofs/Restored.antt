-- Rows in any order: when their serials are distinct, and what book they make.
use Rattle.std.proofs.Common.{◌≡◌, ℕ, zero, suc, ◌<◌, ◌≤◌, ◌==◌, nat_le, Bool, true, false, not, ◌&&◌, ◌||◌, cond, List, [], ◌∷◌, Result, Ok, Err, map, filter, drop, length, refl, sym, ap, subst, ◌∙◌, arith}
use Rattle.std.specs.List.{list_all, list_any}
use Rattle.std.proofs.lemmas.Bool.Decides.{nat_tests}
use Rattle.media_rows.specs.declared.refusal.ApplyFault.{ApplyFault}
use Rattle.media_rows.specs.declared.refusal.ApplyFault.TheVariants as faults
use Rattle.media_rows.specs.declared.request.DeleteRow.{DeleteRow}
use Rattle.media_rows.specs.Lists.{are_distinct, inserted}
use Rattle.media_rows.specs.Refusals.{Restores}
use Rattle.media_rows.specs.Requests.{done_count, done_kept, is_done}
use Rattle.media_rows.specs.Restoring.{can_restore_requests, requests_of}
use Rattle.delete_work.specs.Within.Keeping.{HoldsJust, has_request, request_before, serial_of_row}
use Rattle.delete_work.proofs.Lists.{number_turn}

or_swap : (a b c : Bool) → (a || (b || c)) ≡ (b || (a || c))
or_swap true true c = refl
or_swap true false c = refl
or_swap false b c = refl

any_inserted : (test : DeleteRow → Bool) (x : DeleteRow) (ys : List DeleteRow) → list_any test (inserted request_before x ys) ≡ (test x || list_any test ys)
any_inserted test x [] = refl
any_inserted test x (y ∷ ys) = by (request_before y x) (any_inserted test x ys)
  where
    by : (t : Bool) → list_any test (inserted request_before x ys) ≡ (test x || list_any test ys)
        → list_any test (cond t (y ∷ inserted request_before x ys) (x ∷ y ∷ ys)) ≡ (test x || (test y || list_any test ys))
    by true ih = ap (λ b. test y || b) ih ∙ or_swap (test y) (test x) (list_any test ys)
    by false ih = refl

any_ordered : (test : DeleteRow → Bool) (xs : List DeleteRow) → list_any test (requests_of xs) ≡ list_any test xs
any_ordered test [] = refl
any_ordered test (x ∷ xs) = any_inserted test x (requests_of xs) ∙ ap (λ b. test x || b) (any_ordered test xs)

all_serials : (serial : ℕ) (rows : List DeleteRow) → not (has_request serial rows) ≡ list_all (λ other. not (serial == other)) (map serial_of_row rows)
all_serials serial [] = refl
all_serials serial (r ∷ rows) = rw (number_turn serial r.serial) (by (r.serial == serial) (all_serials serial rows))
  where
    by : (t : Bool) → not (has_request serial rows) ≡ list_all (λ other. not (serial == other)) (map serial_of_row rows)
        → not (t || has_request serial rows) ≡ (not t && list_all (λ other. not (serial == other)) (map serial_of_row rows))
    by true ih = refl
    by false ih = ih

new_serial : (serial : ℕ) (rows : List DeleteRow)
    → not (has_request serial (requests_of rows)) ≡ list_all (λ other. not (serial == other)) (map serial_of_row rows)
new_serial serial rows = ap not (any_ordered (λ r. r.serial == serial) rows) ∙ all_serials serial rows

and_true : (a b : Bool) → a ≡ true → b ≡ true → (a && b) ≡ true
and_true true b e f = f
and_true false b e f = absurd (grind (arith, e))

first_fails : (a b : Bool) → a ≡ false → (a && b) ≡ false
first_fails true b e = absurd (grind (arith, e))
first_fails false b e = refl

second_fails : (a b : Bool) → b ≡ false → (a && b) ≡ false
second_fails true b e = e
second_fails false b e = refl

pub gathered_more : (row : DeleteRow) (rows more : List DeleteRow) (kept next : List DeleteRow) → HoldsJust rows kept → not (has_request row.serial kept) ≡ true
    → next ≡ inserted request_before row kept → more ≡ row ∷ rows → HoldsJust more next
gathered_more row rows more kept next was new is shape =
    rw shape (record {
      distinct = and_true (list_all (λ other. not (row.serial == other)) (map serial_of_row rows)) (are_distinct (map serial_of_row rows))
          (sym (new_serial row.serial rows) ∙ ap (λ k. not (has_request row.serial k)) (sym was.is) ∙ new) was.distinct;
      is = is ∙ ap (inserted request_before row) was.is;
    })

names_tail : (n : ℕ) (rows : List DeleteRow) → are_distinct (map serial_of_row (drop n rows)) ≡ false → are_distinct (map serial_of_row rows) ≡ false
names_tail zero rows e = e
names_tail (suc n) [] e = e
names_tail (suc n) (r ∷ rows) e =
    second_fails (list_all (λ other. not (r.serial == other)) (map serial_of_row rows)) (are_distinct (map serial_of_row rows)) (names_tail n rows e)

pub not_gathered : (n : ℕ) (row : DeleteRow) (rows all : List DeleteRow) (kept : List DeleteRow) → HoldsJust rows kept
    → not (has_request row.serial kept) ≡ false → drop n all ≡ row ∷ rows → are_distinct (map serial_of_row all) ≡ false
not_gathered n row rows all kept was new shape =
    names_tail n all (ap (λ l. are_distinct (map serial_of_row l)) shape
    ∙ first_fails (list_all (λ other. not (row.serial == other)) (map serial_of_row rows)) (are_distinct (map serial_of_row rows))
    (sym (new_serial row.serial rows) ∙ ap (λ k. not (has_request row.serial k)) (sym was.is) ∙ new))

-- ---- how many are done

count_inserted : (test : DeleteRow → Bool) (x : DeleteRow) (ys : List DeleteRow)
    → length (filter test (inserted request_before x ys)) ≡ length (filter test (x ∷ ys))
count_inserted test x [] = refl
count_inserted test x (y ∷ ys) = by (request_before y x) (test x) (test y) refl refl (count_inserted test x ys)
  where
    by : (t s r : Bool) → test x ≡ s → test y ≡ r → length (filter test (inserted request_before x ys)) ≡ length (filter test (x ∷ ys))
        → length (filter test (cond t (y ∷ inserted request_before x ys) (x ∷ y ∷ ys))) ≡ length (filter test (x ∷ y ∷ ys))
    by true true true es er ih = let was : length (filter test (inserted request_before x ys)) ≡ suc (length (filter test ys)) = ih ∙ rw es refl in
        rw (er, es) (ap suc was)
    by true true false es er ih = let was : length (filter test (inserted request_before x ys)) ≡ suc (length (filter test ys)) = ih ∙ rw es refl in
        rw (er, es) was
    by true false true es er ih = let was : length (filter test (inserted request_before x ys)) ≡ length (filter test ys) = ih ∙ rw es refl in
        rw (er, es) (ap suc was)
    by true false false es er ih = let was : length (filter test (inserted request_before x ys)) ≡ length (filter test ys) = ih ∙ rw es refl in
        rw (er, es) was
    by false s r es er ih = refl

count_ordered : (xs : List DeleteRow) → done_count (requests_of xs) ≡ done_count xs
count_ordered [] = refl
count_ordered (x ∷ xs) = count_inserted (λ r. is_done r.status) x (requests_of xs) ∙ by (is_done x.status) refl (count_ordered xs)
  where
    by : (t : Bool) → is_done x.status ≡ t → done_count (requests_of xs) ≡ done_count xs → done_count (x ∷ requests_of xs) ≡ done_count (x ∷ xs)
    by true e ih = rw e (ap suc ih)
    by false e ih = rw e ih

pub within : (n : ℕ) → n ≤ 64 → nat_le n done_kept ≡ true
within n le = by (nat_le n 64) refl
  where
    by : (t : Bool) → nat_le n 64 ≡ t → nat_le n 64 ≡ true
    by true e = e
    by false e = absurd (grind (arith, nat_tests))

pub past : (n : ℕ) → 64 < n → nat_le n done_kept ≡ false
past n lt = by (nat_le n 64) refl
  where
    by : (t : Bool) → nat_le n 64 ≡ t → nat_le n 64 ≡ false
    by true e = absurd (grind (arith, nat_tests))
    by false e = e

pub restored_twice : (rows : List DeleteRow) → are_distinct (map serial_of_row rows) ≡ false → can_restore_requests rows ≡ false
restored_twice rows e = first_fails (are_distinct (map serial_of_row rows)) (nat_le (done_count rows) done_kept) e

pub both_restore : (rows book : List DeleteRow) (result : Result (List DeleteRow) ApplyFault)
    → (are_distinct (map serial_of_row rows) ≡ true) × (book ≡ requests_of rows) → Restores (nat_le (done_count book) done_kept) book result
    → Restores (can_restore_requests rows) (requests_of rows) result
both_restore rows book (Ok next) was h = (
  and_true (are_distinct (map serial_of_row rows)) (nat_le (done_count rows) done_kept) was.0
      (subst (λ n. nat_le n done_kept ≡ true) (ap done_count was.1 ∙ count_ordered rows) h.0),
  h.1 ∙ was.1,
)
both_restore rows book (Err faults.Refused) was h =
    second_fails (are_distinct (map serial_of_row rows)) (nat_le (done_count rows) done_kept)
    (subst (λ n. nat_le n done_kept ≡ false) (ap done_count was.1 ∙ count_ordered rows) h)
both_restore rows book (Err faults.Memory) was h = h
