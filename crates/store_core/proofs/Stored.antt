-- A change that stores an object applies with any digest, and gives the same library but for that digest.
use Rattle.std.proofs.Common.{◌≡◌, ℕ, Bool, true, false, not, cond, List, [], ◌∷◌, Option, Some, None, map, bytes_eq, refl, sym, ap, ap₂, subst, ◌∙◌, arith}
use Rattle.std.specs.Prelude.{◌==◌, ◌&&◌, nat_lt, option_map}
use Rattle.std.specs.List.{AllByRecursion, list_all}
use Rattle.std.specs.Cmp.Lexicographic.{bytes_decides}
use Rattle.std.proofs.lemmas.Bool.{and_from, and_parts}
use Rattle.std.proofs.lemmas.Bool.Decides.{nat_tests}
use Rattle.media_rows.specs.declared.change.Change.{Change}
use Rattle.media_rows.specs.declared.change.Change.TheVariants as changes
use Rattle.media_rows.specs.declared.object.Digest.{Digest}
use Rattle.media_rows.specs.declared.object.ObjectRow.{ObjectRow}
use Rattle.media_rows.specs.Apply.{applied, applies, is_allowed}
use Rattle.media_rows.specs.Changes.{after}
use Rattle.media_rows.specs.Good.{Good, are_object_ids_distinct, is_good, rises_by}
use Rattle.media_rows.specs.Library.{Library, with_happened}
use Rattle.media_rows.specs.Moments.{is_moment}
use Rattle.media_rows.specs.Objects.{object_of, stored_row, with_object}
use Rattle.library_laws.specs.Laws.{GoodIsTested}
use Rattle.object_refs.specs.References.{digested, digested_at, digested_row}
use Rattle.media_book.specs.Media.{media_of, serial_in}
use Rattle.store_core.specs.declared.prepare.Prepared.{Prepared}
use Rattle.store_core.specs.Prepared.{AppliesTo, StoresDigested, change_digested, preparation, prepared_digested}
use Rattle.store_core.proofs.Digested.{names_parts, still_good}

-- ---- the row of a serial is that of an id

abbrev at_serial : Option ℕ → ℕ → Bool
at_serial None serial = false
at_serial (Some own) serial = serial == own

digested_is : (apart : Option ℕ) (digest : Digest) (row : ObjectRow)
    → digested_at apart digest row ≡ cond (at_serial apart row.serial) (digested_row digest row) row
digested_is None digest row = refl
digested_is (Some own) digest row = refl

same_id : (a b : List ℕ) → bytes_eq a b ≡ true → a ≡ b
same_id a b e = let d = bytes_decides a b in d.0 e

id_same : (a b : List ℕ) → a ≡ b → bytes_eq a b ≡ true
id_same a b e = let d = bytes_decides a b in d.1 e

-- the serial of the object of an id
abbrev serial_of : Option ObjectRow → Option ℕ
serial_of found = option_map (λ (row : ObjectRow). row.serial) found

found_passes : (test : ObjectRow → Bool) (id : List ℕ) (rows : List ObjectRow) (row : ObjectRow) → list_all test rows ≡ true
    → object_of id rows ≡ Some row → test row ≡ true
found_passes test id [] row all e = absurd (cc)
found_passes test id (r ∷ rows) row all e =
    let parts = and_parts (test r) (list_all test rows) all in by (bytes_eq r.id id) e (found_passes test id rows row parts.1) parts.0
  where
    by : (t : Bool) → cond t (Some r) (object_of id rows) ≡ Some row → (object_of id rows ≡ Some row → test row ≡ true) → test r ≡ true → test row ≡ true
    by true f ih own = let is : r ≡ row = cc in subst (λ x. test x ≡ true) is own
    by false f ih own = ih f

-- a row has the id exactly where it has the serial
abbrev IsOne : List ℕ → Option ℕ → ObjectRow → Type 0
IsOne id apart row = bytes_eq row.id id ≡ at_serial apart row.serial

others_differ : (own : ObjectRow) (id : List ℕ) (rows : List ObjectRow) → own.id ≡ id
    → list_all (λ other. not (bytes_eq own.id other)) (map (λ row. row.id) rows) ≡ true → list_all (λ row. nat_lt own.serial row.serial) rows ≡ true
    → AllByRecursion (IsOne id (Some own.serial)) rows
others_differ own id [] same ids serials = tt
others_differ own id (r ∷ rows) same ids serials =
    let i = and_parts (not (bytes_eq own.id r.id)) (list_all (λ other. not (bytes_eq own.id other)) (map (λ row. row.id) rows)) ids in
    let s = and_parts (nat_lt own.serial r.serial) (list_all (λ row. nat_lt own.serial row.serial) rows) serials in
    let other : (r.serial == own.serial) ≡ false = (let lt = s.0 in grind (arith, nat_tests)) in
    (by (bytes_eq r.id id) refl i.0 ∙ sym other, others_differ own id rows same i.1 s.1)
  where
    by : (t : Bool) → bytes_eq r.id id ≡ t → not (bytes_eq own.id r.id) ≡ true → t ≡ false
    by false e apart = refl
    by true e apart = absurd (let yes = id_same own.id r.id (same ∙ sym (same_id r.id id e)) in cc)

first_differs : (row : ObjectRow) (rows : List ObjectRow) (id : List ℕ) (found : Option ObjectRow) → object_of id rows ≡ found
    → list_all (λ r. nat_lt row.serial r.serial) rows ≡ true → false ≡ at_serial (serial_of found) row.serial
first_differs row rows id None e above = refl
first_differs row rows id (Some held) e above =
    let lt : nat_lt row.serial held.serial ≡ true = found_passes (λ r. nat_lt row.serial r.serial) id rows held above e in
    let other : (row.serial == held.serial) ≡ false = grind (arith, nat_tests) in sym other

each_is_one : (id : List ℕ) (rows : List ObjectRow) → are_object_ids_distinct rows ≡ true → rises_by (λ row. row.serial) rows ≡ true
    → AllByRecursion (IsOne id (serial_of (object_of id rows))) rows
each_is_one id [] distinct rising = tt
each_is_one id (row ∷ rows) distinct rising =
    let d = and_parts (list_all (λ other. not (bytes_eq row.id other)) (map (λ r. r.id) rows)) (are_object_ids_distinct rows) distinct in
    let s = and_parts (list_all (λ r. nat_lt row.serial r.serial) rows) (rises_by (λ r. r.serial) rows) rising in
    by (bytes_eq row.id id) refl (each_is_one id rows d.1 s.1) d.0 s.0
  where
    same_number : (n : ℕ) → (n == n) ≡ true
    same_number n = grind (arith, nat_tests)

    by : (t : Bool) → bytes_eq row.id id ≡ t → AllByRecursion (IsOne id (serial_of (object_of id rows))) rows
        → list_all (λ other. not (bytes_eq row.id other)) (map (λ r. r.id) rows) ≡ true → list_all (λ r. nat_lt row.serial r.serial) rows ≡ true
        → AllByRecursion (IsOne id (serial_of (cond t (Some row) (object_of id rows)))) (row ∷ rows)
    by true e ih ids serials = (e ∙ sym (same_number row.serial), others_differ row id rows (same_id row.id id e) ids serials)
    by false e ih ids serials = (e ∙ first_differs row rows id (object_of id rows) refl serials, ih)

-- ---- another digest of the object that is stored

stored_so : (id : List ℕ) (apart : Option ℕ) (start size moment : ℕ) (kept : Option Digest) (digest : Digest) (rows : List ObjectRow)
    → AllByRecursion (IsOne id apart) rows
    → with_object id (stored_row start size (Some digest) moment) rows ≡ digested apart digest (with_object id (stored_row start size kept moment) rows)
stored_so id apart start size moment kept digest [] one = refl
stored_so id apart start size moment kept digest (row ∷ rows) one =
    ap₂ (λ r l. r ∷ l) (by (bytes_eq row.id id) one.0) (stored_so id apart start size moment kept digest rows one.1)
  where
    by : (t : Bool) → t ≡ at_serial apart row.serial
        → cond t (stored_row start size (Some digest) moment row) row ≡ digested_at apart digest (cond t (stored_row start size kept moment row) row)
    by true is =
        sym (digested_is apart digest (stored_row start size kept moment row)
        ∙ ap (λ b. cond b (digested_row digest (stored_row start size kept moment row)) (stored_row start size kept moment row)) (sym is))
    by false is = sym (digested_is apart digest row ∙ ap (λ b. cond b (digested_row digest row) row) (sym is))

abbrev pub store : ℕ → List ℕ → ℕ → ℕ → Option Digest → Change
store moment object start size kept = changes.Store moment object start size kept

-- the library after it
pub after_so : (library : Library) (moment : ℕ) (object : List ℕ) (start size : ℕ) (kept : Option Digest) (digest : Digest) → Good library
    → after (store moment object start size (Some digest)) library
    ≡ record (after (store moment object start size kept) library) {
      objects = digested (serial_in object (media_of library)) digest (after (store moment object start size kept) library).objects;
    }
after_so library moment object start size kept digest good =
    let names = names_parts library good.names in
    ap (λ l. with_happened [] moment (record library { objects = l }))
    (stored_so object (serial_in object (media_of library)) start size moment kept digest library.objects
    (each_is_one object library.objects names.0 names.1))

true_cond : (t : Bool) (x y : Library) → cond t (Some x) None ≡ Some y → (t ≡ true) × (x ≡ y)
true_cond true x y e = (refl, cc)
true_cond false x y e = absurd (cc)

pub store_applies : GoodIsTested → (library next : Library) (moment : ℕ) (object : List ℕ) (start size : ℕ) (kept : Option Digest) (digest : Digest)
    → Good library → applied (store moment object start size kept) library ≡ Some next
    → applied (store moment object start size (Some digest)) library
    ≡ Some (record next { objects = digested (serial_in object (media_of library)) digest next.objects })
store_applies tested library next moment object start size kept digest good e =
    let change = store moment object start size kept in
    let other = store moment object start size (Some digest) in
    let apart = serial_in object (media_of library) in
    let was = true_cond (applies library change) (after change library) next e in
    let parts = and_parts (is_moment moment && is_allowed library change) (is_good (after change library)) was.0 in
    let is = after_so library moment object start size kept digest good in
    let still = still_good apart digest (after change library) ((tested (after change library)).0 parts.1) in
    let yes : is_good (after other library) ≡ true = (tested (after other library)).1 (subst Good (sym is) still) in
    let does : applies library other ≡ true = and_from (is_moment moment && is_allowed library change) (is_good (after other library)) parts.0 yes in
    ap (λ t. cond t (Some (after other library)) None) does
    ∙ ap Some (is ∙ ap (λ (l : Library). record l { objects = digested apart digest l.objects }) was.1)

-- what was prepared of it applies with the other digest
pub stores_digested : GoodIsTested → (digest : Digest) (p : Prepared) → StoresDigested p (prepared_digested digest p)
stores_digested tested digest p library moment object start size kept is good own applies_to = λ change e past.
    let new : changes.Store moment object start size (Some digest) ≡ change =
    some_is (sym (ap (option_map (change_digested digest)) is) ∙ e) in
    subst (λ c. applied c library ≡ Some (preparation (prepared_digested digest p)).core) new
    (store_applies tested library p.core.library moment object start size kept digest good (applies_to (store moment object start size kept) is past)
    ∙ ap (λ a. Some (record p.core.library { objects = digested a digest p.core.library.objects })) (sym own))
  where
    some_is : {X : Type 0} {x y : X} → Some x ≡ Some y → x ≡ y
    some_is f = cc
