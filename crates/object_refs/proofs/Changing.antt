-- An object of a book that is changed.
use Rattle.std.proofs.Common.{◌≡◌, ℕ, ℤ, ◌<ℤ◌, ◌==◌, Bool, true, false, not, ◌&&◌, ◌||◌, cond, if◌then◌else◌, List, [], ◌∷◌, ◌++◌, Option, Some, None, bytes_eq, filter, map, nat_lt, refl, sym, ap, subst, ◌∙◌, arith}
use Rattle.std.specs.List.{AllByRecursion, list_any}
use Rattle.media_rows.specs.declared.object.ObjectRow.{ObjectRow}
use Rattle.media_rows.specs.declared.segment.SegmentRow.{SegmentRow}
use Rattle.media_rows.specs.Lists.{placed_all}
use Rattle.media_rows.specs.Objects.{flows_naming, idled, idled_row, is_named, references}
use Rattle.shared_tree.specs.Pairs.{IsRising, is_at, value_at, values, with_pair, without_key}
use Rattle.shared_tree.specs.Rows.{IsKeyedBy}
use Rattle.shared_tree.proofs.Rows.{left_out_is, replaced_is}
use Rattle.object_refs.specs.declared.kept.Kept.{Kept}
use Rattle.object_refs.specs.NameTables.{Names, Renames}
use Rattle.object_refs.specs.References.{changed_at, flows_in, kept_of, less_one, objects_in, reference_of, references_in, references_to, refers, released, without_id, idle_row, released_at}
use Rattle.object_refs.specs.Within.Names.{id_number}
use Rattle.object_refs.specs.Within.Books.{IsBook, idle_entered, idle_key_of, idle_left, kept_key}
use Rattle.object_refs.proofs.Found.{all_looked, found_seen, tests_at}
use Rattle.object_refs.proofs.Inverse.{some_same}
use Rattle.object_refs.proofs.Looks.{above_differs, looked_here, looked_past, same_is}
use Rattle.object_refs.proofs.Moving.{book_changes, book_loses}
use Rattle.object_refs.proofs.Naming.{bytes_differ, same_bytes}
use Rattle.object_refs.proofs.Referring.{append_nothing, refs_append, refs_found, refs_missing, refs_other, refs_same}

abbrev Rows : Type 0
Rows = List (ℤ × Kept)

abbrev has_id : List ℕ → Kept → Bool
has_id id k = bytes_eq k.row.id id

-- the row of an object stands at its serial
pub row_seen : (rows : Rows) (old : Kept) → IsRising rows → IsKeyedBy kept_key rows → kept_of old.row.id (values rows) ≡ Some old
    → value_at (kept_key old) rows ≡ Some old
row_seen rows old rising keyed e = (found_seen kept_key (has_id old.row.id) rows old rising keyed e).0

pub changed_book : (rows rows' : Rows) (names names' : Names) (idle left idle' : List (ℤ × ℕ)) (old new : Kept) (old_key key : Option ℤ)
    → IsBook rows names idle → IsRising rows → kept_of old.row.id (values rows) ≡ Some old → new.row.id ≡ old.row.id → new.row.serial ≡ old.row.serial
    → old_key ≡ idle_key_of old → key ≡ idle_key_of new → rows' ≡ with_pair (kept_key old, new) rows → names' ≡ names → left ≡ idle_left old_key idle
    → idle' ≡ idle_entered key old.row.serial left → IsBook rows' names' idle'
changed_book rows rows' names names' idle left idle' old new old_key key book rising found id serial eo ek er en el ei =
    book_changes rows rows' names names' idle idle' old new book (row_seen rows old rising book.keyed found) id serial er en
    (ei ∙ ap (λ k. idle_entered k old.row.serial left) ek ∙ ap (idle_entered (idle_key_of new) old.row.serial) (el ∙ ap (λ k. idle_left k idle) eo))

pub changed_values : (rows rows' : Rows) (names : Names) (idle : List (ℤ × ℕ)) (old new : Kept) (change : Kept → Kept)
    → IsBook rows names idle → IsRising rows → kept_of old.row.id (values rows) ≡ Some old → new ≡ change old → rows' ≡ with_pair (kept_key old, new) rows
    → values rows' ≡ changed_at old.row.id change (values rows)
changed_values rows rows' names idle old new change book rising found made is =
    let seen = row_seen rows old rising book.keyed found in
    ap values (is ∙ ap (λ v. with_pair (kept_key old, v) rows) made)
    ∙ replaced_is (has_id old.row.id) change (kept_key old) old rows rising (tests_at old.row.id (kept_key old) old rows names rising book.named seen refl) seen

-- ---- one reference less

-- whether a list has anything
abbrev pub has_any : {X : Type 0} → List X → Bool
has_any [] = false
has_any (x ∷ xs) = true

any_kept : {X : Type 0} (test : X → Bool) (xs : List X) → list_any test xs ≡ has_any (filter test xs)
any_kept test [] = refl
any_kept test (x ∷ xs) = by (test x) (any_kept test xs)
  where
    by : (t : Bool) → list_any test xs ≡ has_any (filter test xs) → (t || list_any test xs) ≡ has_any (cond t (x ∷ filter test xs) (filter test xs))
    by true ih = refl
    by false ih = ih

pub named_is : (segments : List SegmentRow) (id : List ℕ) → is_named segments id ≡ has_any (references segments id)
named_is segments id = any_kept (λ row. bytes_eq row.segment.object id) segments

pub any_map : {X Y : Type 0} (f : X → Y) (xs : List X) → has_any (map f xs) ≡ has_any xs
any_map f [] = refl
any_map f (x ∷ xs) = refl

-- a change of one object leaves the references to others
others_stay : (id other : List ℕ) (change : Kept → Kept) (kept : List Kept) → ((k : Kept) → (change k).row.id ≡ k.row.id) → bytes_eq other id ≡ false
    → references (references_in (changed_at id change kept)) other ≡ references (references_in kept) other
others_stay id other change [] stays differs = refl
others_stay id other change (k ∷ kept) stays differs = by (has_id id k) refl (others_stay id other change kept stays differs)
  where
    by : (t : Bool) → has_id id k ≡ t → references (references_in (changed_at id change kept)) other ≡ references (references_in kept) other
        → references (references_in ((if t then change k else k) ∷ changed_at id change kept)) other ≡ references (references_in (k ∷ kept)) other
    by true e ih =
        let differs' : bytes_eq k.row.id other ≡ false =
        subst (λ i. bytes_eq i other ≡ false) (sym (same_bytes k.row.id id e)) (bytes_differ other id differs) in
        let new_differs : bytes_eq (change k).row.id other ≡ false = subst (λ i. bytes_eq i other ≡ false) (sym (stays k)) differs' in
        refs_append (references_to (change k)) (references_in (changed_at id change kept)) other
        ∙ ap (λ l. l ++ references (references_in (changed_at id change kept)) other) (refs_other (change k).row.id other (change k).flows new_differs)
        ∙ ih
        ∙ sym (refs_append (references_to k) (references_in kept) other
        ∙ ap (λ l. l ++ references (references_in kept) other) (refs_other k.row.id other k.flows differs'))
    by false e ih =
        refs_append (references_to k) (references_in (changed_at id change kept)) other
        ∙ ap (λ l. references (references_to k) other ++ l) ih
        ∙ sym (refs_append (references_to k) (references_in kept) other)

-- no object of these has the id, changed or not
no_refs : (id : List ℕ) (change : Kept → Kept) (rows : Rows) → AllByRecursion (λ p. has_id id p.1 ≡ false) rows
    → references (references_in (changed_at id change (values rows))) id ≡ []
no_refs id change [] h = refl
no_refs id change (p ∷ rows) h =
    rw h.0
    (refs_append (references_to p.1) (references_in (changed_at id change (values rows))) id
    ∙ ap (λ l. l ++ references (references_in (changed_at id change (values rows))) id) (refs_other p.1.row.id id p.1.flows h.0) ∙ no_refs id change rows h.1)

-- the changed object has the references that it is given
changed_refs : (id : List ℕ) (s : ℤ) (change : Kept → Kept) (rows : Rows) (kept : Kept) → ((k : Kept) → (change k).row.id ≡ k.row.id) → IsRising rows
    → AllByRecursion (λ p. has_id id p.1 ≡ is_at s p) rows → value_at s rows ≡ Some kept
    → references (references_in (changed_at id change (values rows))) id ≡ references_to (change kept)
changed_refs id s change [] kept stays rising tests e = absurd (grind (arith, e))
changed_refs id s change (p ∷ rest) kept stays rising tests e = by (is_at s p) refl tests.0 (λ e'. changed_refs id s change rest kept stays rising.1 tests.1 e')
  where
    no_more : s ≡ p.0 → AllByRecursion (λ q. has_id id q.1 ≡ false) rest
    no_more at = both rest tests.1 rising.0
      where
        both : (qs : Rows) → AllByRecursion (λ q. has_id id q.1 ≡ is_at s q) qs → AllByRecursion (λ q. p.0 <ℤ q.0) qs
            → AllByRecursion (λ q. has_id id q.1 ≡ false) qs
        both [] t lt = tt
        both (q ∷ qs) t lt = (t.0 ∙ above_differs q.0 s (subst (λ z. z <ℤ q.0) (sym at) lt.0), both qs t.1 lt.1)

    by : (t : Bool) → is_at s p ≡ t → has_id id p.1 ≡ is_at s p
        → (value_at s rest ≡ Some kept → references (references_in (changed_at id change (values rest))) id ≡ references_to (change kept))
        → references (references_in (changed_at id change (values (p ∷ rest)))) id ≡ references_to (change kept)
    by true et test ih =
        let is : p.1 ≡ kept = some_same (sym (looked_here s p rest et) ∙ e) in
        let has : bytes_eq (change p.1).row.id id ≡ true = subst (λ i. bytes_eq i id ≡ true) (sym (stays p.1)) (test ∙ et) in
        rw (test ∙ et)
        (refs_append (references_to (change p.1)) (references_in (changed_at id change (values rest))) id
        ∙ ap (λ l. l ++ references (references_in (changed_at id change (values rest))) id) (refs_same (change p.1).row.id id (change p.1).flows has)
        ∙ ap (λ l. references_to (change p.1) ++ l) (no_refs id change rest (no_more (sym (same_is p.0 s et))))
        ∙ append_nothing (references_to (change p.1)) ∙ ap (λ k. references_to (change k)) is)
    by false et test ih =
        rw (test ∙ et)
        (refs_append (references_to p.1) (references_in (changed_at id change (values rest))) id
        ∙ ap (λ l. l ++ references (references_in (changed_at id change (values rest))) id) (refs_other p.1.row.id id p.1.flows (test ∙ et))
        ∙ ih (sym (looked_past s p rest et) ∙ e))

-- what is idle after one reference less
idle_is : (flows : List ℕ) (moment : ℕ) (row : ObjectRow) (before after : Bool) → before ≡ true → after ≡ has_any flows
    → idle_row flows moment row ≡ (if before && not after then record row { idle_since = moment } else row)
idle_is [] moment row before after eb ea = rw (eb, ea) refl
idle_is (f ∷ fs) moment row before after eb ea = rw (eb, ea) refl

same_row : (moment : ℕ) (row : ObjectRow) (before after : Bool) → after ≡ before
    → row ≡ (if before && not after then record row { idle_since = moment } else row)
same_row moment row true after e = rw e refl
same_row moment row false after e = refl

released_stays : (flow moment : ℕ) (k : Kept) → (released_at flow moment k).row.id ≡ k.row.id
released_stays flow moment k = by (less_one flow k.flows)
  where
    by : (l : List ℕ) → (idle_row l moment k.row).id ≡ k.row.id
    by [] = refl
    by (f ∷ fs) = refl

pub released_serial : (flow moment : ℕ) (k : Kept) → (released_at flow moment k).row.serial ≡ k.row.serial
released_serial flow moment k = by (less_one flow k.flows)
  where
    by : (l : List ℕ) → (idle_row l moment k.row).serial ≡ k.row.serial
    by [] = refl
    by (f ∷ fs) = refl

pub released_id : (flow moment : ℕ) (k : Kept) → (released_at flow moment k).row.id ≡ k.row.id
released_id flow moment k = released_stays flow moment k

-- an object to which a flow refers has references
has_some : (id : List ℕ) (flow : ℕ) (kept : List Kept) (old : Kept) → references (references_in kept) id ≡ references_to old
    → refers (references_in kept) id flow ≡ true → has_any old.flows ≡ true
has_some id flow kept old same e = by old.flows refl
  where
    by : (l : List ℕ) → old.flows ≡ l → has_any old.flows ≡ true
    by [] el = absurd (let none = ap (list_any (λ row. row.flow == flow)) (same ∙ ap (map (reference_of old.row.id)) el) in let f =
        sym none ∙ e in grind (arith, f))
    by (f ∷ fs) el = ap has_any el

each_row : (qs : Rows) (before after : List Kept) (id : List ℕ) (flow moment : ℕ)
    → AllByRecursion (λ q. (if has_id id q.1 then released_at flow moment q.1 else q.1).row ≡ idled_row (references_in before)
    (references_in after) moment q.1.row) qs
    → objects_in (changed_at id (released_at flow moment) (values qs)) ≡ idled (references_in before) (references_in after) moment (objects_in (values qs))
each_row [] before after id flow moment h = refl
each_row (q ∷ qs) before after id flow moment h =
    ap (λ l. (if has_id id q.1 then released_at flow moment q.1 else q.1).row ∷ l) (each_row qs before after id flow moment h.1)
    ∙ ap (λ r. r ∷ idled (references_in before) (references_in after) moment (objects_in (values qs))) h.0

-- the objects once a reference went, by the library's rule
pub released_objects : (rows : Rows) (names : Names) (idle : List (ℤ × ℕ)) (old : Kept) (id : List ℕ) (flow moment : ℕ) (next : List Kept)
    → IsBook rows names idle → IsRising rows → kept_of id (values rows) ≡ Some old → refers (references_in (values rows)) id flow ≡ true
    → next ≡ changed_at id (released_at flow moment) (values rows)
    → objects_in next ≡ idled (references_in (values rows)) (references_in next) moment (objects_in (values rows))
released_objects rows names idle old id flow moment next book rising found there is =
    rw is (each_row rows (values rows) (changed_at id (released_at flow moment) (values rows)) id flow moment
    (together one rows (tests_at id (kept_key old) old rows names rising book.named seen.0 has) (all_looked rows rising)))
  where
    all_kept : List Kept
    all_kept = values rows

    after_all : List Kept
    after_all = changed_at id (released_at flow moment) all_kept

    seen : (value_at (kept_key old) rows ≡ Some old) × (has_id id old ≡ true)
    seen = found_seen kept_key (has_id id) rows old rising book.keyed found

    has : old.row.id ≡ id
    has = same_bytes old.row.id id seen.1

    before_old : is_named (references_in all_kept) id ≡ true
    before_old = named_is (references_in all_kept) id ∙ ap has_any (refs_found id rows names old rising book.keyed book.named found)
        ∙ any_map (reference_of old.row.id) old.flows ∙ has_some id flow all_kept old (refs_found id rows names old rising book.keyed book.named found) there

    after_old : is_named (references_in after_all) id ≡ has_any (less_one flow old.flows)
    after_old = named_is (references_in after_all) id
        ∙ ap has_any (changed_refs id (kept_key old) (released_at flow moment) rows old (released_stays flow moment) rising
        (tests_at id (kept_key old) old rows names rising book.named seen.0 has) seen.0)
        ∙ any_map (reference_of (released_at flow moment old).row.id) (less_one flow old.flows)

    after_other : (other : List ℕ) → bytes_eq other id ≡ false → is_named (references_in after_all) other ≡ is_named (references_in all_kept) other
    after_other other e = named_is (references_in after_all) other
        ∙ ap has_any (others_stay id other (released_at flow moment) all_kept (released_stays flow moment) e) ∙ sym (named_is (references_in all_kept) other)

    one : (p : ℤ × Kept) (t : Bool) → has_id id p.1 ≡ t → is_at (kept_key old) p ≡ t → value_at p.0 rows ≡ Some p.1
        → (if t then released_at flow moment p.1 else p.1).row ≡ idled_row (references_in all_kept) (references_in after_all) moment p.1.row
    one p true e at look =
        let same : p.1 ≡ old = some_same (sym look ∙ ap (λ k. value_at k rows) (same_is p.0 (kept_key old) at) ∙ seen.0) in
        subst (λ k. (released_at flow moment k).row ≡ idled_row (references_in all_kept) (references_in after_all) moment k.row) (sym same)
        (idle_is (less_one flow old.flows) moment old.row (is_named (references_in all_kept) old.row.id) (is_named (references_in after_all) old.row.id)
        (subst (λ i. is_named (references_in all_kept) i ≡ true) (sym has) before_old)
        (subst (λ i. is_named (references_in after_all) i ≡ has_any (less_one flow old.flows)) (sym has) after_old))
    one p false e at look =
        same_row moment p.1.row (is_named (references_in all_kept) p.1.row.id) (is_named (references_in after_all) p.1.row.id) (after_other p.1.row.id e)

    together : ((p : ℤ × Kept) (t : Bool) → has_id id p.1 ≡ t → is_at (kept_key old) p ≡ t → value_at p.0 rows ≡ Some p.1
        → (if t then released_at flow moment p.1 else p.1).row ≡ idled_row (references_in (values rows))
        (references_in (changed_at id (released_at flow moment) (values rows))) moment p.1.row) → (qs : Rows)
        → AllByRecursion (λ q. has_id id q.1 ≡ is_at (kept_key old) q) qs → AllByRecursion (λ q. value_at q.0 rows ≡ Some q.1) qs
        → AllByRecursion (λ q. (if has_id id q.1 then released_at flow moment q.1 else q.1).row ≡ idled_row (references_in (values rows))
        (references_in (changed_at id (released_at flow moment) (values rows))) moment q.1.row) qs
    together f [] t h = tt
    together f (q ∷ qs) t h = (f q (has_id id q.1) refl (sym t.0) h.0, together f qs t.1 h.1)

-- the flows once a reference went
pub released_flows : (id : List ℕ) (flow moment : ℕ) (kept next : List Kept) → next ≡ changed_at id (released_at flow moment) kept
    → flows_in next ≡ flows_in (changed_at id (released flow) kept)
released_flows id flow moment kept next is = ap flows_in is ∙ each kept
  where
    each : (ks : List Kept) → flows_in (changed_at id (released_at flow moment) ks) ≡ flows_in (changed_at id (released flow) ks)
    each [] = refl
    each (k ∷ ks) = by (has_id id k) (each ks)
      where
        by : (t : Bool) → flows_in (changed_at id (released_at flow moment) ks) ≡ flows_in (changed_at id (released flow) ks)
            → (if t then released_at flow moment k else k).flows ∷ flows_in (changed_at id (released_at flow moment) ks) ≡
            (if t then released flow k else k).flows ∷ flows_in (changed_at id (released flow) ks)
        by true ih = ap (λ l. less_one flow k.flows ∷ l) ih
        by false ih = ap (λ l. k.flows ∷ l) ih

-- where no object is found none refers
pub none_refer : (id : List ℕ) (flow : ℕ) (kept : List Kept) → kept_of id kept ≡ None → refers (references_in kept) id flow ≡ false
none_refer id flow kept none = ap (list_any (λ row. row.flow == flow)) (refs_missing id kept none)

-- ---- flows that name an object

flows_back : (own : List ℕ) (flows : List ℕ) → map (λ row. row.flow) (map (reference_of own) flows) ≡ flows
flows_back own [] = refl
flows_back own (f ∷ fs) = ap (λ l. f ∷ l) (flows_back own fs)

pub naming_found : (id : List ℕ) (rows : Rows) (names : Names) (idle : List (ℤ × ℕ)) (old : Kept) → IsBook rows names idle → IsRising rows
    → kept_of id (values rows) ≡ Some old → flows_naming (references_in (values rows)) id ≡ placed_all nat_lt old.flows
naming_found id rows names idle old book rising found =
    ap (λ l. placed_all nat_lt (map (λ row. row.flow) l)) (refs_found id rows names old rising book.keyed book.named found)
    ∙ ap (placed_all nat_lt) (flows_back old.row.id old.flows)

pub naming_none : (id : List ℕ) (kept : List Kept) → kept_of id kept ≡ None → flows_naming (references_in kept) id ≡ []
naming_none id kept none = ap (λ l. placed_all nat_lt (map (λ row. row.flow) l)) (refs_missing id kept none)

-- ---- an object that goes

pub left_book : (rows rows' : Rows) (names names' : Names) (idle idle' : List (ℤ × ℕ)) (old : Kept) (number : ℕ) (old_key : Option ℤ)
    → IsBook rows names idle → IsRising rows → kept_of old.row.id (values rows) ≡ Some old → number ≡ id_number old.row.id → old_key ≡ idle_key_of old
    → rows' ≡ without_key (kept_key old) rows → Renames number old.row.id None names names' → idle' ≡ idle_left old_key idle → IsBook rows' names' idle'
left_book rows rows' names names' idle idle' old number old_key book rising found en eo er renames ei =
    book_loses rows rows' names names' idle idle' old book (row_seen rows old rising book.keyed found) er
    (subst (λ n. Renames n old.row.id None names names') en renames) (ei ∙ ap (λ k. idle_left k idle) eo)

pub left_values : (rows rows' : Rows) (names : Names) (idle : List (ℤ × ℕ)) (old : Kept) → IsBook rows names idle → IsRising rows
    → kept_of old.row.id (values rows) ≡ Some old → rows' ≡ without_key (kept_key old) rows → values rows' ≡ without_id old.row.id (values rows)
left_values rows rows' names idle old book rising found is =
    ap values is ∙ left_out_is (has_id old.row.id) (kept_key old) rows rising
    (tests_at old.row.id (kept_key old) old rows names rising book.named (row_seen rows old rising book.keyed found) refl)

-- an object that isn't kept can't go
pub none_left : (id : List ℕ) (kept : List Kept) → kept_of id kept ≡ None → kept ≡ without_id id kept
none_left id [] e = refl
none_left id (k ∷ kept) e = by (has_id id k) e (none_left id kept)
  where
    by : (t : Bool) → cond t (Some k) (kept_of id kept) ≡ None → (kept_of id kept ≡ None → kept ≡ without_id id kept)
        → k ∷ kept ≡ cond (not t) (k ∷ without_id id kept) (without_id id kept)
    by true f ih = absurd (grind (arith, f))
    by false f ih = ap (λ l. k ∷ l) (ih f)
