-- A row that stands for another one, from which it differs in its digest alone: what is said of objects is said alike.
use Rattle.std.proofs.Common.{◌≡◌, ℕ, ◌==◌, ℤ, pos, int_eq, nat_lt, Bool, true, false, not, ◌&&◌, cond, List, [], ◌∷◌, ◌++◌, Option, Some, None, bytes_eq, filter, map, option_map, refl, sym, ap, ap₂, subst, ◌∙◌, arith}
use Rattle.std.specs.List.{AllByRecursion, list_all}
use Rattle.std.proofs.lemmas.Bool.{and_parts}
use Rattle.std.proofs.lemmas.Bool.Decides.{nat_tests}
use Rattle.media_rows.specs.declared.object.Digest.{Digest}
use Rattle.media_rows.specs.declared.object.ObjectRow.{ObjectRow}
use Rattle.media_rows.specs.declared.object.ObjectState.{ObjectState}
use Rattle.media_rows.specs.declared.object.ObjectState.TheVariants.{Allocated, Stored}
use Rattle.media_rows.specs.declared.segment.SegmentRow.{SegmentRow}
use Rattle.media_rows.specs.Good.{are_object_ids_distinct, rises_by}
use Rattle.media_rows.specs.Lists.{are_distinct_texts, in_order, inserted}
use Rattle.media_rows.specs.Objects.{due_objects, idles_before, is_due, object_of}
use Rattle.shared_tree.specs.Pairs.{IsRising, first, is_at, value_at, values}
use Rattle.shared_tree.specs.Rows.{IsKeyedBy}
use Rattle.shared_tree.proofs.Counted.{all_kept}
use Rattle.shared_tree.proofs.Rising.{all_map}
use Rattle.shared_tree.proofs.Rows.{found_is}
use Rattle.object_refs.specs.declared.kept.Kept.{Kept}
use Rattle.object_refs.specs.NameTables.{Names}
use Rattle.object_refs.specs.References.{changed_at, digested_at, digested_row, digested_state, kept_of, objects_in, reference_of, references_in, with_digest}
use Rattle.object_refs.specs.Within.Apart.{IsHeld, book_seen, shown_by, shown_kept, shown_row, undigested, undigested_state}
use Rattle.object_refs.specs.Within.Books.{IsInverse, id_at, kept_key, name_at}
use Rattle.object_refs.proofs.Found.{seen_holds, tests_at}
use Rattle.object_refs.proofs.Looks.{is_same, same_is}
use Rattle.object_refs.proofs.Sweeping.{all_ordered}

-- ---- the rows that are shown

pub shown_objects : (held : Option ObjectRow) (kept : List Kept) → objects_in (shown_kept held kept) ≡ map (shown_row held) (objects_in kept)
shown_objects None [] = refl
shown_objects None (k ∷ kept) = ap (λ l. k.row ∷ l) (shown_objects None kept)
shown_objects (Some row) [] = refl
shown_objects (Some row) (k ∷ kept) = ap (λ l. shown_by row k.row ∷ l) (shown_objects (Some row) kept)

-- each row is shown as it is, but for its digest
abbrev pub AreLike : (ObjectRow → ObjectRow) → List ObjectRow → Type 0
AreLike f rows = AllByRecursion (λ row. undigested (f row) ≡ undigested row) rows

pub held_like : (held : Option ObjectRow) (kept : List Kept) → IsHeld held kept → AreLike (shown_row held) (objects_in kept)
held_like None [] h = tt
held_like None (k ∷ kept) h = (refl, held_like None kept h)
held_like (Some row) [] h = tt
held_like (Some row) (k ∷ kept) h = (h.0, held_like (Some row) kept h.1)

-- ---- what is found, in which order rows stand

module _ (f : ObjectRow → ObjectRow) where
  found_like : (id : List ℕ) (rows : List ObjectRow) → AreLike f rows → object_of id (map f rows) ≡ option_map f (object_of id rows)
  found_like id [] h = refl
  found_like id (row ∷ rows) h =
      ap (λ r. cond (bytes_eq r.id id) (Some (f row)) (object_of id (map f rows))) h.0 ∙ by (bytes_eq row.id id) (found_like id rows h.1)
    where
      by : (t : Bool) → object_of id (map f rows) ≡ option_map f (object_of id rows)
          → cond t (Some (f row)) (object_of id (map f rows)) ≡ option_map f (cond t (Some row) (object_of id rows))
      by true ih = refl
      by false ih = ih

  due_kept : (segments : List SegmentRow) (moment : ℕ) (rows : List ObjectRow) → AreLike f rows
      → filter (is_due segments moment) (map f rows) ≡ map f (filter (is_due segments moment) rows)
  due_kept segments moment [] h = refl
  due_kept segments moment (row ∷ rows) h =
      ap (λ r. cond (is_due segments moment r) (f row ∷ filter (is_due segments moment) (map f rows)) (filter (is_due segments moment) (map f rows))) h.0
      ∙ by (is_due segments moment row) (due_kept segments moment rows h.1)
    where
      by : (t : Bool) → filter (is_due segments moment) (map f rows) ≡ map f (filter (is_due segments moment) rows)
          → cond t (f row ∷ filter (is_due segments moment) (map f rows)) (filter (is_due segments moment) (map f rows))
          ≡ map f (cond t (row ∷ filter (is_due segments moment) rows) (filter (is_due segments moment) rows))
      by true ih = ap (λ l. f row ∷ l) ih
      by false ih = ih

  inserted_like : (row : ObjectRow) (rows : List ObjectRow) → undigested (f row) ≡ undigested row → AreLike f rows
      → inserted idles_before (f row) (map f rows) ≡ map f (inserted idles_before row rows)
  inserted_like row [] own h = refl
  inserted_like row (other ∷ rows) own h =
      ap₂ (λ x y. cond (idles_before x y) (f other ∷ inserted idles_before (f row) (map f rows)) (f row ∷ f other ∷ map f rows)) h.0 own
      ∙ by (idles_before other row) (inserted_like row rows own h.1)
    where
      by : (t : Bool) → inserted idles_before (f row) (map f rows) ≡ map f (inserted idles_before row rows)
          → cond t (f other ∷ inserted idles_before (f row) (map f rows)) (f row ∷ f other ∷ map f rows)
          ≡ map f (cond t (other ∷ inserted idles_before row rows) (row ∷ other ∷ rows))
      by true ih = ap (λ l. f other ∷ l) ih
      by false ih = refl

  ordered_like : (rows : List ObjectRow) → AreLike f rows → in_order idles_before (map f rows) ≡ map f (in_order idles_before rows)
  ordered_like [] h = refl
  ordered_like (row ∷ rows) h =
      ap (inserted idles_before (f row)) (ordered_like rows h.1)
      ∙ inserted_like row (in_order idles_before rows) h.0 (all_ordered (λ r. undigested (f r) ≡ undigested r) idles_before rows h.1)

  first_like : (rows : List ObjectRow) → first (map f rows) ≡ option_map f (first rows)
  first_like [] = refl
  first_like (row ∷ rows) = refl

  due_like : (segments : List SegmentRow) (rows : List ObjectRow) (moment : ℕ) → AreLike f rows
      → first (due_objects segments (map f rows) moment) ≡ option_map f (first (due_objects segments rows moment))
  due_like segments rows moment h =
      ap (λ l. first (in_order idles_before l)) (due_kept segments moment rows h)
      ∙ ap first (ordered_like (filter (is_due segments moment) rows)
      (all_kept (λ r. undigested (f r) ≡ undigested r) (is_due segments moment) rows h))
      ∙ first_like (in_order idles_before (filter (is_due segments moment) rows))

  above_like : (own : ObjectRow) (rows : List ObjectRow) → undigested (f own) ≡ undigested own → AreLike f rows
      → list_all (λ r. nat_lt (f own).serial r.serial) (map f rows) ≡ list_all (λ r. nat_lt own.serial r.serial) rows
  above_like own [] same h = refl
  above_like own (row ∷ rows) same h =
      ap₂ (λ (a b : Bool). a && b) (ap₂ (λ (x y : ObjectRow). nat_lt x.serial y.serial) same h.0) (above_like own rows same h.1)

  rises_like : (rows : List ObjectRow) → AreLike f rows → rises_by (λ row. row.serial) (map f rows) ≡ rises_by (λ row. row.serial) rows
  rises_like [] h = refl
  rises_like (row ∷ rows) h = ap₂ (λ (a b : Bool). a && b) (above_like row rows h.0 h.1) (rises_like rows h.1)

  ids_like : (rows : List ObjectRow) → AreLike f rows → map (λ row. row.id) (map f rows) ≡ map (λ row. row.id) rows
  ids_like [] h = refl
  ids_like (row ∷ rows) h = ap₂ (λ i l. i ∷ l) (ap (λ r. r.id) h.0) (ids_like rows h.1)

-- ---- the looks of a book

pub find_shown : (held : Option ObjectRow) (kept : List Kept) (id : List ℕ) → IsHeld held kept
    → option_map (shown_row held) (object_of id (objects_in kept)) ≡ object_of id (objects_in (shown_kept held kept))
find_shown held kept id h =
    sym (ap (object_of id) (shown_objects held kept) ∙ found_like (shown_row held) id (objects_in kept) (held_like held kept h))

pub references_shown : (held : Option ObjectRow) (kept : List Kept) → IsHeld held kept → references_in (shown_kept held kept) ≡ references_in kept
references_shown None kept h = refl
references_shown (Some row) [] h = refl
references_shown (Some row) (k ∷ kept) h =
    ap₂ (λ i l. map (reference_of i) k.flows ++ l) (ap (λ r. r.id) h.0) (references_shown (Some row) kept h.1)

pub due_shown : (held : Option ObjectRow) (kept : List Kept) (moment : ℕ) → IsHeld held kept
    → option_map (shown_row held) (first (due_objects (references_in kept) (objects_in kept) moment))
    ≡ first (due_objects (references_in (shown_kept held kept)) (objects_in (shown_kept held kept)) moment)
due_shown held kept moment h =
    sym (ap₂ (λ s l. first (due_objects s l moment)) (references_shown held kept h) (shown_objects held kept)
    ∙ due_like (shown_row held) (references_in kept) (objects_in kept) moment (held_like held kept h))

pub rises_shown : (held : Option ObjectRow) (kept : List Kept) → IsHeld held kept
    → rises_by (λ row. row.serial) (objects_in (shown_kept held kept)) ≡ rises_by (λ row. row.serial) (objects_in kept)
rises_shown held kept h =
    ap (rises_by (λ row. row.serial)) (shown_objects held kept) ∙ rises_like (shown_row held) (objects_in kept) (held_like held kept h)

pub distinct_shown : (held : Option ObjectRow) (kept : List Kept) → IsHeld held kept
    → are_object_ids_distinct (objects_in (shown_kept held kept)) ≡ are_object_ids_distinct (objects_in kept)
distinct_shown held kept h =
    ap are_object_ids_distinct (shown_objects held kept) ∙ ap are_distinct_texts (ids_like (shown_row held) (objects_in kept) (held_like held kept h))

-- the objects are as many
pub count_shown : {X : Type 0} (measure : List ObjectRow → X) → ((f : ObjectRow → ObjectRow) (rows : List ObjectRow) → measure (map f rows) ≡ measure rows)
    → (held : Option ObjectRow) (kept : List Kept) → measure (objects_in (shown_kept held kept)) ≡ measure (objects_in kept)
count_shown measure same held kept = ap measure (shown_objects held kept) ∙ same (shown_row held) (objects_in kept)

-- ---- a copy of a row stands for it

found_passes : (test : ObjectRow → Bool) (id : List ℕ) (rows : List ObjectRow) (row : ObjectRow) → list_all test rows ≡ true → object_of id rows ≡ Some row
    → test row ≡ true
found_passes test id [] row all e = absurd (grind (arith, e))
found_passes test id (r ∷ rows) row all e =
    let parts = and_parts (test r) (list_all test rows) all in by (bytes_eq r.id id) e (found_passes test id rows row parts.1) parts.0
  where
    by : (t : Bool) → cond t (Some r) (object_of id rows) ≡ Some row → (object_of id rows ≡ Some row → test row ≡ true) → test r ≡ true → test row ≡ true
    by true f ih own = let is : r ≡ row = grind (arith, f) in subst (λ x. test x ≡ true) is own
    by false f ih own = ih f

-- no row of a greater serial is changed by it
others_same : (row : ObjectRow) (rows : List ObjectRow) → list_all (λ r. nat_lt row.serial r.serial) rows ≡ true
    → AllByRecursion (λ r. shown_by row r ≡ r) rows
others_same row [] all = tt
others_same row (r ∷ rows) all =
    let parts = and_parts (nat_lt row.serial r.serial) (list_all (λ x. nat_lt row.serial x.serial) rows) all in
    (let other : (r.serial == row.serial) ≡ false = (let lt = parts.0 in grind (arith, nat_tests)) in ap (λ b. cond b row r) other, others_same row rows parts.1)

own_same : (row : ObjectRow) → shown_by row row ≡ row
own_same row = by (row.serial == row.serial)
  where
    by : (t : Bool) → cond t row row ≡ row
    by true = refl
    by false = refl

shown_same : (id : List ℕ) (rows : List ObjectRow) (row : ObjectRow) → rises_by (λ r. r.serial) rows ≡ true → object_of id rows ≡ Some row
    → AllByRecursion (λ r. shown_by row r ≡ r) rows
shown_same id [] row rising e = tt
shown_same id (r ∷ rows) row rising e =
    let parts = and_parts (list_all (λ x. nat_lt r.serial x.serial) rows) (rises_by (λ x. x.serial) rows) rising in
    by (bytes_eq r.id id) e (shown_same id rows row parts.1) parts.0
  where
    by : (t : Bool) → cond t (Some r) (object_of id rows) ≡ Some row → (object_of id rows ≡ Some row → AllByRecursion (λ x. shown_by row x ≡ x) rows)
        → list_all (λ x. nat_lt r.serial x.serial) rows ≡ true → AllByRecursion (λ x. shown_by row x ≡ x) (r ∷ rows)
    by true f ih above =
        let is : r ≡ row = grind (arith, f) in
        subst (λ y. AllByRecursion (λ x. shown_by y x ≡ x) (r ∷ rows)) is (own_same r, others_same r rows above)
    by false f ih above =
        let lt : nat_lt r.serial row.serial ≡ true = found_passes (λ x. nat_lt r.serial x.serial) id rows row above f in
        let other : (r.serial == row.serial) ≡ false = grind (arith, nat_tests) in
        (ap (λ b. cond b row r) other, ih f)

same_kept : (row : ObjectRow) (kept : List Kept) → AllByRecursion (λ r. shown_by row r ≡ r) (objects_in kept) → shown_kept (Some row) kept ≡ kept
same_kept row [] h = refl
same_kept row (k ∷ kept) h = ap₂ (λ r l. record { row = r; flows = k.flows } ∷ l) h.0 (same_kept row kept h.1)

same_held : (row : ObjectRow) (kept : List Kept) → AllByRecursion (λ r. shown_by row r ≡ r) (objects_in kept) → IsHeld (Some row) kept
same_held row [] h = tt
same_held row (k ∷ kept) h = (ap undigested h.0, same_held row kept h.1)

-- what is found among the objects may be held apart
pub found_held : (id : List ℕ) (kept : List Kept) (held : Option ObjectRow) → rises_by (λ row. row.serial) (objects_in kept) ≡ true
    → object_of id (objects_in kept) ≡ held → IsHeld held kept
found_held id kept None rising e = tt
found_held id kept (Some row) rising e = same_held row kept (shown_same id (objects_in kept) row rising e)

-- and then nothing is shown but what is kept
pub found_shown : (id : List ℕ) (kept : List Kept) (held : Option ObjectRow) → rises_by (λ row. row.serial) (objects_in kept) ≡ true
    → object_of id (objects_in kept) ≡ held → shown_kept held kept ≡ kept
found_shown id kept None rising e = refl
found_shown id kept (Some row) rising e = same_kept row kept (shown_same id (objects_in kept) row rising e)

-- ---- another digest

blind_state : (digest : Digest) (state : ObjectState) → undigested_state (digested_state digest state) ≡ undigested_state state
blind_state digest Allocated = refl
blind_state digest (Stored start size kept) = refl

digested_held : (digest : Digest) (row : ObjectRow) (kept : List Kept) → IsHeld (Some row) kept → IsHeld (Some (digested_row digest row)) kept
digested_held digest row [] h = tt
digested_held digest row (k ∷ kept) h = (by (k.row.serial == row.serial) h.0, digested_held digest row kept h.1)
  where
    by : (t : Bool) → undigested (cond t row k.row) ≡ undigested k.row → undigested (cond t (digested_row digest row) k.row) ≡ undigested k.row
    by true same = like row ∙ same
      where
        like : (r : ObjectRow) → undigested (digested_row digest r) ≡ undigested r
        like r = ap (λ s. record r { state = s }) (blind_state digest r.state)
    by false same = same

same_number : (n : ℕ) → (n == n) ≡ true
same_number n = grind (arith, nat_tests)

digested_shown : (digest : Digest) (row : ObjectRow) (kept : List Kept)
    → shown_kept (Some (digested_row digest row)) kept ≡ (with_digest digest (book_seen kept (Some row))).kept
digested_shown digest row [] = refl
digested_shown digest row (k ∷ kept) =
    ap₂ (λ r l. record { row = r; flows = k.flows } ∷ l) (by (k.row.serial == row.serial) refl) (digested_shown digest row kept)
  where
    by : (t : Bool) → (k.row.serial == row.serial) ≡ t
        → cond t (digested_row digest row) k.row ≡ digested_at (Some row.serial) digest (cond t row k.row)
    by true e = sym (ap (λ b. cond b (digested_row digest row) row) (same_number row.serial))
    by false e = sym (ap (λ b. cond b (digested_row digest k.row) k.row) e)

undigested_shown : (digest : Digest) (kept : List Kept) → kept ≡ (with_digest digest (book_seen kept None)).kept
undigested_shown digest [] = refl
undigested_shown digest (k ∷ kept) = ap (λ l. k ∷ l) (undigested_shown digest kept)

-- a row that is held stays one, and the book has its digest
pub held_still : (digest : Digest) (held : Option ObjectRow) (kept : List Kept) → IsHeld held kept → IsHeld (option_map (digested_row digest) held) kept
held_still digest None kept h = tt
held_still digest (Some row) kept h = digested_held digest row kept h

pub book_digested : (digest : Digest) (held : Option ObjectRow) (kept : List Kept)
    → book_seen kept (option_map (digested_row digest) held) ≡ with_digest digest (book_seen kept held)
book_digested digest None kept = ap (λ l. record { kept = l; apart = None }) (undigested_shown digest kept)
book_digested digest (Some row) kept = ap (λ l. record { kept = l; apart = Some row.serial }) (digested_shown digest row kept)

-- ---- the row put with the others

abbrev Rows : Type 0
Rows = List (ℤ × Kept)

of_values : (P : Kept → Type 0) (rows : Rows) → AllByRecursion P (values rows) → AllByRecursion (λ p. P p.1) rows
of_values P [] h = tt
of_values P (p ∷ rows) h = (h.0, of_values P rows h.1)

same_serial : (a b : ℕ) → pos a ≡ pos b → a ≡ b
same_serial a b e = grind arith

number_tests : (a b : ℕ) → int_eq (pos a) (pos b) ≡ (a == b)
number_tests a b = by (int_eq (pos a) (pos b)) (a == b) refl refl
  where
    by : (s t : Bool) → int_eq (pos a) (pos b) ≡ s → (a == b) ≡ t → s ≡ t
    by true true es et = refl
    by false false es et = refl
    by true false es et = absurd (let same = same_serial a b (same_is (pos a) (pos b) es) in grind (arith, nat_tests, et, same))
    by false true es et = absurd (let same : a ≡ b = grind (arith, nat_tests) in let yes = is_same (pos a) (pos b) (ap (λ n. pos n) same) in grind (arith, es, yes))

-- the row has the id and the serial of the object that is seen at its serial
pub seen_serial : (row : ObjectRow) (old : Kept) (rows : Rows) → IsKeyedBy kept_key rows → value_at (pos row.serial) rows ≡ Some old
    → row.serial ≡ old.row.serial
seen_serial row old rows keyed here = same_serial row.serial old.row.serial (seen_holds (λ s k. s ≡ kept_key k) rows (pos row.serial) old keyed here)

pub seen_id : (row : ObjectRow) (old : Kept) (rows : Rows) → IsKeyedBy kept_key rows → IsHeld (Some row) (values rows)
    → value_at (pos row.serial) rows ≡ Some old → row.id ≡ old.row.id
seen_id row old rows keyed held here =
    let like = seen_holds (λ s k. undigested (shown_by row k.row) ≡ undigested k.row) rows (pos row.serial) old
    (of_values (λ k. undigested (shown_by row k.row) ≡ undigested k.row) rows held) here in
    let own : (old.row.serial == row.serial) ≡ true = ap (λ n. old.row.serial == n) (seen_serial row old rows keyed here) ∙ same_number old.row.serial in
    ap (λ r. r.id) (sym (ap (λ b. undigested (cond b row old.row)) own) ∙ like)

pub seen_found : (old : Kept) (serial : ℕ) (rows : Rows) (names : Names) → IsRising rows → IsInverse (id_at rows) (name_at names)
    → value_at (pos serial) rows ≡ Some old → kept_of old.row.id (values rows) ≡ Some old
seen_found old serial rows names rising inverse here =
    sym (found_is (λ k. bytes_eq k.row.id old.row.id) (pos serial) rows (tests_at old.row.id (pos serial) old rows names rising inverse here refl)) ∙ here

-- the object of an id with this row
abbrev pub with_row_of : ObjectRow → Kept → Kept
with_row_of row k = record { row = row; flows = k.flows }

changed_shown : (row : ObjectRow) (id : List ℕ) (rows : Rows) → AllByRecursion (λ p. bytes_eq p.1.row.id id ≡ is_at (pos row.serial) p) rows
    → IsKeyedBy kept_key rows → changed_at id (with_row_of row) (values rows) ≡ shown_kept (Some row) (values rows)
changed_shown row id [] tests keyed = refl
changed_shown row id (p ∷ rows) tests keyed =
    ap₂ (λ (b : Bool) (l : List Kept). cond b (with_row_of row p.1) p.1 ∷ l)
    (tests.0 ∙ ap (λ z. int_eq z (pos row.serial)) keyed.0 ∙ number_tests p.1.row.serial row.serial)
    (changed_shown row id rows tests.1 keyed.1)
    ∙ ap (λ k. k ∷ shown_kept (Some row) (values rows)) (by (p.1.row.serial == row.serial))
  where
    by : (t : Bool) → cond t (with_row_of row p.1) p.1 ≡ record { row = cond t row p.1.row; flows = p.1.flows }
    by true = refl
    by false = refl

pub put_shown : (row : ObjectRow) (old : Kept) (rows : Rows) (names : Names) → IsRising rows → IsKeyedBy kept_key rows
    → IsInverse (id_at rows) (name_at names) → value_at (pos row.serial) rows ≡ Some old
    → changed_at old.row.id (with_row_of row) (values rows) ≡ shown_kept (Some row) (values rows)
put_shown row old rows names rising keyed inverse here =
    changed_shown row old.row.id rows (tests_at old.row.id (pos row.serial) old rows names rising inverse here refl) keyed

-- a serial that no object has
pub none_shown : (row : ObjectRow) (rows : Rows) → IsKeyedBy kept_key rows → value_at (pos row.serial) rows ≡ None
    → shown_kept (Some row) (values rows) ≡ values rows
none_shown row [] keyed none = refl
none_shown row (p ∷ rows) keyed none = by (is_at (pos row.serial) p) refl none (none_shown row rows keyed.1)
  where
    by : (t : Bool) → is_at (pos row.serial) p ≡ t
        → option_map (λ q. q.1) (first (cond t (p ∷ filter (is_at (pos row.serial)) rows) (filter (is_at (pos row.serial)) rows))) ≡ None
        → (value_at (pos row.serial) rows ≡ None → shown_kept (Some row) (values rows) ≡ values rows)
        → shown_kept (Some row) (values (p ∷ rows)) ≡ values (p ∷ rows)
    by true e f ih = absurd (grind (arith, f))
    by false e f ih =
        let other : (p.1.row.serial == row.serial) ≡ false =
        sym (number_tests p.1.row.serial row.serial) ∙ ap (λ z. int_eq z (pos row.serial)) (sym keyed.0) ∙ e in
        ap₂ (λ (b : Bool) (l : List Kept). record { row = cond b row p.1.row; flows = p.1.flows } ∷ l) other (ih f)
