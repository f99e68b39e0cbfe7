-- Rows in any order: when their ids and serials are distinct, and what book they make.
use Rattle.std.proofs.Common.{◌≡◌, ℕ, zero, suc, ◌==◌, nat_lt, Bool, true, false, not, ◌&&◌, ◌||◌, cond, if◌then◌else◌, List, [], ◌∷◌, Some, None, Result, Ok, Err, bytes_eq, find, is_none, map, drop, refl, sym, ap, ◌∙◌, arith}
use Rattle.std.specs.List.{list_all, list_any}
use Rattle.std.proofs.lemmas.Bool.Decides.{nat_tests}
use Rattle.media_rows.specs.declared.refusal.ApplyFault.{ApplyFault}
use Rattle.media_rows.specs.declared.refusal.ApplyFault.TheVariants as faults
use Rattle.media_rows.specs.Refusals.{Restores}
use Rattle.media_rows.specs.declared.object.ObjectRow.{ObjectRow}
use Rattle.media_rows.specs.declared.segment.SegmentRow.{SegmentRow}
use Rattle.media_rows.specs.Good.{are_object_ids_distinct, are_references_good}
use Rattle.media_rows.specs.Lists.{are_distinct, in_order, inserted}
use Rattle.media_rows.specs.Objects.{is_stored_object, is_stored_row, object_of, references}
use Rattle.media_rows.specs.Restoring.{can_restore_objects, objects_of}
use Rattle.object_refs.specs.declared.kept.Kept.{Kept}
use Rattle.object_refs.specs.References.{book_of, changed_at, objects_in, referred, with_references}
use Rattle.object_refs.specs.Within.Books.{AreReferred, IsGathered, are_names_distinct, bare, bare_objects, has_serial, kept_before, referring, with_new_object}
use Rattle.object_refs.proofs.Naming.{bytes_differ, bytes_same, same_bytes}

abbrev serial_before : ObjectRow → ObjectRow → Bool
serial_before a b = nat_lt a.serial b.serial

bytes_turn : (a b : List ℕ) → bytes_eq a b ≡ bytes_eq b a
bytes_turn a b = by (bytes_eq a b) refl
  where
    by : (t : Bool) → bytes_eq a b ≡ t → bytes_eq a b ≡ bytes_eq b a
    by true e = e ∙ sym (bytes_same b a (sym (same_bytes a b e)))
    by false e = e ∙ sym (bytes_differ a b e)

number_turn : (a b : ℕ) → (a == b) ≡ (b == a)
number_turn a b = by (a == b) (b == a) refl refl
  where
    by : (s t : Bool) → (a == b) ≡ s → (b == a) ≡ t → (a == b) ≡ (b == a)
    by true true e f = e ∙ sym f
    by false false e f = e ∙ sym f
    by true false e f = absurd (grind (arith, nat_tests))
    by false true e f = absurd (grind (arith, nat_tests))

-- ---- tests over rows in order

or_swap : (a b c : Bool) → (a || (b || c)) ≡ (b || (a || c))
or_swap true true c = refl
or_swap true false c = refl
or_swap false b c = refl

any_inserted : {X : Type 0} (before : X → X → Bool) (test : X → Bool) (x : X) (ys : List X)
    → list_any test (inserted before x ys) ≡ (test x || list_any test ys)
any_inserted before test x [] = refl
any_inserted before test x (y ∷ ys) = by (before y x) (any_inserted before test x ys)
  where
    by : (t : Bool) → list_any test (inserted before x ys) ≡ (test x || list_any test ys)
        → list_any test (cond t (y ∷ inserted before x ys) (x ∷ y ∷ ys)) ≡ (test x || (test y || list_any test ys))
    by true ih = ap (λ b. test y || b) ih ∙ or_swap (test y) (test x) (list_any test ys)
    by false ih = refl

any_ordered : {X : Type 0} (before : X → X → Bool) (test : X → Bool) (xs : List X) → list_any test (in_order before xs) ≡ list_any test xs
any_ordered before test [] = refl
any_ordered before test (x ∷ xs) = any_inserted before test x (in_order before xs) ∙ ap (λ b. test x || b) (any_ordered before test xs)

none_any : {X : Type 0} (test : X → Bool) (xs : List X) → is_none (find test xs) ≡ not (list_any test xs)
none_any test [] = refl
none_any test (x ∷ xs) = by (test x) (none_any test xs)
  where
    by : (t : Bool) → is_none (find test xs) ≡ not (list_any test xs) → is_none (cond t (Some x) (find test xs)) ≡ not (t || list_any test xs)
    by true ih = refl
    by false ih = ih

all_ids : (id : List ℕ) (rows : List ObjectRow)
    → not (list_any (λ row. bytes_eq row.id id) rows) ≡ list_all (λ other. not (bytes_eq id other)) (map (λ row. row.id) rows)
all_ids id [] = refl
all_ids id (r ∷ rows) = rw (bytes_turn id r.id) (by (bytes_eq r.id id) (all_ids id rows))
  where
    by : (t : Bool) → not (list_any (λ row. bytes_eq row.id id) rows) ≡ list_all (λ other. not (bytes_eq id other)) (map (λ row. row.id) rows)
        → not (t || list_any (λ row. bytes_eq row.id id) rows) ≡ (not t && list_all (λ other. not (bytes_eq id other)) (map (λ row. row.id) rows))
    by true ih = refl
    by false ih = ih

all_serials : (serial : ℕ) (rows : List ObjectRow)
    → not (list_any (λ row. row.serial == serial) rows) ≡ list_all (λ other. not (serial == other)) (map (λ row. row.serial) rows)
all_serials serial [] = refl
all_serials serial (r ∷ rows) = rw (number_turn serial r.serial) (by (r.serial == serial) (all_serials serial rows))
  where
    by : (t : Bool) → not (list_any (λ row. row.serial == serial) rows) ≡ list_all (λ other. not (serial == other)) (map (λ row. row.serial) rows)
        → not (t || list_any (λ row. row.serial == serial) rows) ≡ (not t && list_all (λ other. not (serial == other)) (map (λ row. row.serial) rows))
    by true ih = refl
    by false ih = ih

objects_back : (rows : List ObjectRow) → objects_in (map bare rows) ≡ rows
objects_back [] = refl
objects_back (r ∷ rows) = ap (λ l. r ∷ l) (objects_back rows)

serials_back : (serial : ℕ) (rows : List ObjectRow) → has_serial serial (map bare rows) ≡ list_any (λ row. row.serial == serial) rows
serials_back serial [] = refl
serials_back serial (r ∷ rows) = ap (λ b. (r.serial == serial) || b) (serials_back serial rows)

-- ---- a row more

and_four : (a b c d : Bool) → (b && d) ≡ true → ((a && b) && (c && d)) ≡ (a && c)
and_four true true true d e = e
and_four true true false d e = refl
and_four true false c d e = absurd (grind (arith, e))
and_four false b c d e = refl

abbrev pub is_new : ObjectRow → List Kept → Bool
is_new row kept = is_none (object_of row.id (objects_in kept)) && not (has_serial row.serial kept)

new_ids : (row : ObjectRow) (rows : List ObjectRow)
    → is_none (object_of row.id (objects_in (bare_objects rows))) ≡ list_all (λ other. not (bytes_eq row.id other)) (map (λ r. r.id) rows)
new_ids row rows =
    ap (λ l. is_none (object_of row.id l)) (objects_back (objects_of rows))
    ∙ none_any (λ r. bytes_eq r.id row.id) (objects_of rows) ∙ ap not (any_ordered serial_before (λ r. bytes_eq r.id row.id) rows) ∙ all_ids row.id rows

new_serials : (row : ObjectRow) (rows : List ObjectRow)
    → not (has_serial row.serial (bare_objects rows)) ≡ list_all (λ other. not (row.serial == other)) (map (λ r. r.serial) rows)
new_serials row rows = ap not (serials_back row.serial (objects_of rows) ∙ any_ordered serial_before (λ r. r.serial == row.serial) rows)
    ∙ all_serials row.serial rows

names_more : (row : ObjectRow) (rows : List ObjectRow) → are_names_distinct rows ≡ true → are_names_distinct (row ∷ rows) ≡ is_new row (bare_objects rows)
names_more row rows e =
    and_four (list_all (λ other. not (bytes_eq row.id other)) (map (λ r. r.id) rows)) (are_object_ids_distinct rows)
    (list_all (λ other. not (row.serial == other)) (map (λ r. r.serial) rows)) (are_distinct (map (λ r. r.serial) rows)) e
    ∙ ap (λ b. b && list_all (λ other. not (row.serial == other)) (map (λ r. r.serial) rows)) (sym (new_ids row rows))
    ∙ ap (λ b. is_none (object_of row.id (objects_in (bare_objects rows))) && b) (sym (new_serials row rows))

placed_bare : (row : ObjectRow) (rows : List ObjectRow) → inserted kept_before (bare row) (map bare rows) ≡ map bare (inserted serial_before row rows)
placed_bare row [] = refl
placed_bare row (r ∷ rows) = by (nat_lt r.serial row.serial) (placed_bare row rows)
  where
    by : (t : Bool) → inserted kept_before (bare row) (map bare rows) ≡ map bare (inserted serial_before row rows)
        → cond t (bare r ∷ inserted kept_before (bare row) (map bare rows)) (bare row ∷ bare r ∷ map bare rows) ≡ map bare
        (cond t (r ∷ inserted serial_before row rows) (row ∷ r ∷ rows))
    by true ih = ap (λ l. bare r ∷ l) ih
    by false ih = refl

pub gathered_more : (row : ObjectRow) (rows more : List ObjectRow) (kept next : List Kept) → IsGathered rows kept → is_new row kept ≡ true
    → next ≡ with_new_object row kept → more ≡ row ∷ rows → IsGathered more next
gathered_more row rows more kept next was new is shape =
    rw shape (record {
      distinct = names_more row rows was.distinct ∙ ap (is_new row) (sym was.is) ∙ new;
      is = is ∙ ap (with_new_object row) was.is ∙ placed_bare row (objects_of rows);
    })

and_false : (a b c d : Bool) → (b && d) ≡ false → ((a && b) && (c && d)) ≡ false
and_false true true true d e = e
and_false true true false d e = refl
and_false true false c d e = refl
and_false false b c d e = refl

names_tail : (n : ℕ) (rows : List ObjectRow) → are_names_distinct (drop n rows) ≡ false → are_names_distinct rows ≡ false
names_tail zero rows e = e
names_tail (suc n) [] e = e
names_tail (suc n) (r ∷ rows) e =
    and_false (list_all (λ other. not (bytes_eq r.id other)) (map (λ x. x.id) rows)) (are_object_ids_distinct rows)
    (list_all (λ other. not (r.serial == other)) (map (λ x. x.serial) rows)) (are_distinct (map (λ x. x.serial) rows)) (names_tail n rows e)

pub not_gathered : (n : ℕ) (row : ObjectRow) (rows all : List ObjectRow) (kept : List Kept) → IsGathered rows kept → is_new row kept ≡ false
    → drop n all ≡ row ∷ rows → are_names_distinct all ≡ false
not_gathered n row rows all kept was new shape =
    names_tail n all (ap are_names_distinct shape ∙ names_more row rows was.distinct ∙ ap (is_new row) (sym was.is) ∙ new)

-- ---- references of segments

pub objects_same : (id : List ℕ) (flow : ℕ) (kept : List Kept) → objects_in (changed_at id (referred flow) kept) ≡ objects_in kept
objects_same id flow [] = refl
objects_same id flow (k ∷ kept) = by (bytes_eq k.row.id id) (objects_same id flow kept)
  where
    by : (t : Bool) → objects_in (changed_at id (referred flow) kept) ≡ objects_in kept
        → (if t then referred flow k else k).row ∷ objects_in (changed_at id (referred flow) kept) ≡ k.row ∷ objects_in kept
    by true ih = ap (λ l. k.row ∷ l) ih
    by false ih = ap (λ l. k.row ∷ l) ih

objects_stay : (segments : List SegmentRow) (kept : List Kept) → objects_in (referring segments kept) ≡ objects_in kept
objects_stay [] kept = refl
objects_stay (s ∷ segments) kept = objects_same s.segment.object s.flow (referring segments kept) ∙ objects_stay segments kept

and_true : (a b : Bool) → a ≡ true → b ≡ true → (a && b) ≡ true
and_true true b ea eb = eb
and_true false b ea eb = ea

pub referred_more : (s : SegmentRow) (segments more : List SegmentRow) (start kept next : List Kept) → AreReferred segments start kept
    → is_stored_object (objects_in kept) s.segment.object ≡ true → next ≡ changed_at s.segment.object (referred s.flow) kept → more ≡ s ∷ segments
    → AreReferred more start next
referred_more s segments more start kept next was stored is shape =
    rw shape (record {
      stored = and_true (is_stored_object (objects_in start) s.segment.object) (list_all (λ x. is_stored_object (objects_in start) x.segment.object) segments)
          (ap (λ l. is_stored_object l s.segment.object) (sym (ap objects_in was.is ∙ objects_stay segments start)) ∙ stored) was.stored;
      is = is ∙ ap (changed_at s.segment.object (referred s.flow)) was.is;
    })

all_tail : {X : Type 0} (test : X → Bool) (n : ℕ) (xs : List X) → list_all test (drop n xs) ≡ false → list_all test xs ≡ false
all_tail test zero xs e = e
all_tail test (suc n) [] e = e
all_tail test (suc n) (x ∷ xs) e = by (test x) (all_tail test n xs e)
  where
    by : (t : Bool) → list_all test xs ≡ false → (t && list_all test xs) ≡ false
    by true f = f
    by false f = refl

first_fails : (a b : Bool) → a ≡ false → (a && b) ≡ false
first_fails true b e = absurd (grind (arith, e))
first_fails false b e = refl

pub not_referred : (n : ℕ) (s : SegmentRow) (segments all : List SegmentRow) (start kept : List Kept) → AreReferred segments start kept
    → is_stored_object (objects_in kept) s.segment.object ≡ false → drop n all ≡ s ∷ segments
    → list_all (λ x. is_stored_object (objects_in start) x.segment.object) all ≡ false
not_referred n s segments all start kept was stored shape =
    all_tail (λ x. is_stored_object (objects_in start) x.segment.object) n all
    (ap (list_all (λ x. is_stored_object (objects_in start) x.segment.object)) shape
    ∙ first_fails (is_stored_object (objects_in start) s.segment.object) (list_all (λ x. is_stored_object (objects_in start) x.segment.object) segments)
    (ap (λ l. is_stored_object l s.segment.object) (sym (ap objects_in was.is ∙ objects_stay segments start)) ∙ stored))

-- ---- the book of both

-- each object gets the references that segments have to it
refers_each : (s : SegmentRow) (segments : List SegmentRow) (rows : List ObjectRow)
    → changed_at s.segment.object (referred s.flow) (map (with_references segments) rows) ≡ map (with_references (s ∷ segments)) rows
refers_each s segments [] = refl
refers_each s segments (r ∷ rows) = rw (bytes_turn s.segment.object r.id) (by (bytes_eq r.id s.segment.object) (refers_each s segments rows))
  where
    by : (t : Bool) → changed_at s.segment.object (referred s.flow) (map (with_references segments) rows) ≡ map (with_references (s ∷ segments)) rows
        → (if t then referred s.flow (with_references segments r) else with_references segments r) ∷ changed_at s.segment.object (referred s.flow)
        (map (with_references segments) rows) ≡ record
        { row = r; flows = in_order nat_lt (map (λ x. x.flow) (cond t (s ∷ references segments r.id) (references segments r.id))) } ∷ map
        (with_references (s ∷ segments)) rows
    by true ih = ap (λ l. referred s.flow (with_references segments r) ∷ l) ih
    by false ih = ap (λ l. with_references segments r ∷ l) ih

refers_all : (segments : List SegmentRow) (rows : List ObjectRow) → referring segments (map bare rows) ≡ map (with_references segments) rows
refers_all [] [] = refl
refers_all [] (r ∷ rows) = ap (λ l. bare r ∷ l) (refers_all [] rows)
refers_all (s ∷ segments) rows = ap (changed_at s.segment.object (referred s.flow)) (refers_all segments rows) ∙ refers_each s segments rows

-- an id is found among rows in order as among the rows
found_inserted : {X : Type 0} (before : X → X → Bool) (test : X → Bool) (x : X) (ys : List X) → (test x ≡ true → find test ys ≡ None)
    → find test (inserted before x ys) ≡ cond (test x) (Some x) (find test ys)
found_inserted before test x [] alone = refl
found_inserted {X} before test x (y ∷ ys) alone = by (before y x) (test x) (test y) refl refl (λ a. found_inserted before test x ys a)
  where
    later : (test y ≡ false) → (test x ≡ true → find test ys ≡ None)
    later ey ex = sym (ap (λ t. cond t (Some y) (find test ys)) ey) ∙ alone ex

    by : (t a b : Bool) → test x ≡ a → test y ≡ b
        → ((test x ≡ true → find test ys ≡ None) → find test (inserted before x ys) ≡ cond (test x) (Some x) (find test ys))
        → find test (cond t (y ∷ inserted before x ys) (x ∷ y ∷ ys)) ≡ cond (test x) (Some x) (find test (y ∷ ys))
    by false a b ex ey ih = refl
    by true true true ex ey ih = absurd (let none = sym (ap (λ t. cond t (Some y) (find test ys)) ey) ∙ alone ex in grind (arith, none))
    by true false true ex ey ih = rw (ey, ex) refl
    by true true false ex ey ih = rw (ey, ex) (ih (later ey) ∙ ap (λ t. cond t (Some x) (find test ys)) ex)
    by true false false ex ey ih = rw (ey, ex) (ih (later ey) ∙ ap (λ t. cond t (Some x) (find test ys)) ex)

no_more : (id : List ℕ) (row : ObjectRow) (rows : List ObjectRow) → list_all (λ other. not (bytes_eq row.id other)) (map (λ r. r.id) rows) ≡ true
    → bytes_eq row.id id ≡ true → object_of id rows ≡ None
no_more id row [] e same = refl
no_more id row (r ∷ rows) e same = by (bytes_eq r.id id) (bytes_eq row.id r.id) refl refl e (λ f. no_more id row rows f same)
  where
    by : (t d : Bool) → bytes_eq r.id id ≡ t → bytes_eq row.id r.id ≡ d
        → (not d && list_all (λ other. not (bytes_eq row.id other)) (map (λ x. x.id) rows)) ≡ true
        → (list_all (λ other. not (bytes_eq row.id other)) (map (λ x. x.id) rows) ≡ true → object_of id rows ≡ None)
        → cond t (Some r) (object_of id rows) ≡ None
    by t true et ed f ih = absurd (grind (arith, f))
    by true false et ed f ih = absurd (let yes = bytes_same row.id r.id (same_bytes row.id id same ∙ sym (same_bytes r.id id et)) in grind (arith, yes, ed))
    by false false et ed f ih = ih f

and_parts : (a b : Bool) → (a && b) ≡ true → (a ≡ true) × (b ≡ true)
and_parts true b e = (refl, e)
and_parts false b e = absurd (grind (arith, e))

object_ordered : (id : List ℕ) (rows : List ObjectRow) → are_object_ids_distinct rows ≡ true → object_of id (objects_of rows) ≡ object_of id rows
object_ordered id [] e = refl
object_ordered id (r ∷ rows) e =
    let parts = and_parts (list_all (λ other. not (bytes_eq r.id other)) (map (λ x. x.id) rows)) (are_object_ids_distinct rows) e in
    let rest = object_ordered id rows parts.1 in
    found_inserted serial_before (λ x. bytes_eq x.id id) r (objects_of rows) (λ same. rest ∙ no_more id r rows parts.0 same)
    ∙ ap (cond (bytes_eq r.id id) (Some r)) rest

references_good : (rows : List ObjectRow) (segments : List SegmentRow) → are_object_ids_distinct rows ≡ true
    → list_all (λ s. is_stored_object (objects_in (bare_objects rows)) s.segment.object) segments ≡ are_references_good rows segments
references_good rows [] e = refl
references_good rows (s ∷ segments) e =
    ap (λ b. b && list_all (λ x. is_stored_object (objects_in (bare_objects rows)) x.segment.object) segments)
    (ap (λ l. is_stored_object l s.segment.object) (objects_back (objects_of rows)) ∙ ap is_stored_row (object_ordered s.segment.object rows e))
    ∙ ap (λ b. is_stored_object rows s.segment.object && b) (references_good rows segments e)

pub book_refused : (rows : List ObjectRow) (segments : List SegmentRow) → are_names_distinct rows ≡ false → can_restore_objects rows segments ≡ false
book_refused rows segments e = first_fails (are_names_distinct rows) (are_references_good rows segments) e

pub book_is : (rows : List ObjectRow) (segments : List SegmentRow) (bare_book kept : List Kept) → are_names_distinct rows ≡ true
    → bare_book ≡ bare_objects rows → list_all (λ s. is_stored_object (objects_in bare_book) s.segment.object) segments ≡ true
    → kept ≡ referring segments bare_book → (can_restore_objects rows segments ≡ true) × (kept ≡ book_of rows segments)
book_is rows segments bare_book kept names bare_is stored is = (
  and_true (are_names_distinct rows) (are_references_good rows segments) names
      (sym (references_good rows segments (and_parts (are_object_ids_distinct rows) (are_distinct (map (λ r. r.serial) rows)) names).0)
      ∙ sym (ap (λ k. list_all (λ s. is_stored_object (objects_in k) s.segment.object) segments) bare_is) ∙ stored),
  is ∙ ap (referring segments) bare_is ∙ refers_all segments (objects_of rows),
)

pub references_refused : (rows : List ObjectRow) (segments : List SegmentRow) (bare_book : List Kept) → are_names_distinct rows ≡ true
    → bare_book ≡ bare_objects rows → list_all (λ s. is_stored_object (objects_in bare_book) s.segment.object) segments ≡ false
    → can_restore_objects rows segments ≡ false
references_refused rows segments bare_book names bare_is stored =
    rw names (sym (references_good rows segments (and_parts (are_object_ids_distinct rows) (are_distinct (map (λ r. r.serial) rows)) names).0)
    ∙ sym (ap (λ k. list_all (λ s. is_stored_object (objects_in k) s.segment.object) segments) bare_is) ∙ stored)

-- ---- what the references of segments make of a book without references

pub both_restore : (rows : List ObjectRow) (segments : List SegmentRow) (bare_book : List Kept) (result : Result (List Kept) ApplyFault)
    → (are_names_distinct rows ≡ true) × (bare_book ≡ bare_objects rows)
    → Restores (list_all (λ s. is_stored_object (objects_in bare_book) s.segment.object) segments) (referring segments bare_book) result
    → Restores (can_restore_objects rows segments) (book_of rows segments) result
both_restore rows segments bare_book (Ok kept) was h = book_is rows segments bare_book kept was.0 was.1 h.0 h.1
both_restore rows segments bare_book (Err faults.Refused) was h = references_refused rows segments bare_book was.0 was.1 h
both_restore rows segments bare_book (Err faults.Memory) was h = h
