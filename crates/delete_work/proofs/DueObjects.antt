-- The objects that a sweep takes, one after the other.
use Rattle.std.proofs.Common.{◌≡◌, ℕ, zero, suc, ◌≤◌, ◌<◌, ◌+◌, ◌-◌, ◌==◌, nat_lt, Bool, true, false, not, ◌&&◌, ◌||◌, cond, List, [], ◌∷◌, ◌++◌, Some, None, bytes_eq, filter, map, take, drop, length, refl, sym, ap, subst, ◌∙◌, arith}
use Rattle.std.specs.List.{AllByRecursion, list_all, list_any}
use Rattle.std.proofs.lemmas.Bool.Decides.{nat_tests}
use Rattle.media_rows.specs.declared.object.ObjectRow.{ObjectRow}
use Rattle.media_rows.specs.Good.{are_object_ids_distinct, rises_by}
use Rattle.media_rows.specs.Lists.{in_order, inserted}
use Rattle.media_rows.specs.Objects.{due_objects, idles_before, is_due, is_named, sweep_size, without_objects}
use Rattle.shared_tree.specs.Pairs.{first}
use Rattle.shared_tree.proofs.Counted.{all_kept}
use Rattle.shared_tree.proofs.Rising.{all_map, filter_all}
use Rattle.object_refs.specs.declared.kept.Kept.{Kept}
use Rattle.object_refs.specs.References.{objects_in, reference_of, references_in, references_to, without_id}
use Rattle.object_refs.proofs.Theorems.{any_append, due_unnamed}
use Rattle.id_index.proofs.Pairs.{filter_swap}
use Rattle.delete_work.specs.Work.{without_swept}
use Rattle.delete_work.specs.Within.Seeking.{Sweeping}
use Rattle.delete_work.proofs.Lists.{agreed, append_nothing, append_one, each_is, filter_twice, not_true, number_same, number_turn, parts, some_same}
use Rattle.delete_work.proofs.Ordered.{Orders, all_inserted, all_ordered, ordered_kept}
use Rattle.delete_work.proofs.Released.{bytes_turn, same_bytes}

-- the order of sweeps
abbrev pair_before : ℕ → ℕ → ℕ → ℕ → Bool
pair_before a x b y = nat_lt a b || ((a == b) && nat_lt x y)

pair_turned : (a x b y : ℕ) → pair_before a x b y ≡ true → pair_before b y a x ≡ false
pair_turned a x b y e = by (pair_before b y a x) refl
  where
    by : (t : Bool) → pair_before b y a x ≡ t → pair_before b y a x ≡ false
    by true f = absurd (grind (arith, nat_tests))
    by false f = f

pair_through : (a x b y c z : ℕ) → pair_before b y a x ≡ false → pair_before c z b y ≡ false → pair_before c z a x ≡ false
pair_through a x b y c z e f = by (pair_before c z a x) refl
  where
    by : (t : Bool) → pair_before c z a x ≡ t → pair_before c z a x ≡ false
    by true g = absurd (grind (arith, nat_tests))
    by false g = g

pub idle_orders : Orders idles_before
idle_orders = record {
  turned = λ a b e. pair_turned a.idle_since a.serial b.idle_since b.serial e;
  through = λ x y z e f. pair_through x.idle_since x.serial y.idle_since y.serial z.idle_since z.serial e f;
}

-- ---- ids

-- no two have one id
abbrev Apart : List ObjectRow → Type 0
Apart [] = Unit {0}
Apart (x ∷ xs) = AllByRecursion (λ y. bytes_eq y.id x.id ≡ false) xs × Apart xs

apart_inserted : (x : ObjectRow) (ys : List ObjectRow) → AllByRecursion (λ y. bytes_eq y.id x.id ≡ false) ys → Apart ys → Apart (inserted idles_before x ys)
apart_inserted x [] h hs = (tt, tt)
apart_inserted x (y ∷ ys) h hs = by (idles_before y x) (apart_inserted x ys h.1 hs.1)
  where
    by : (t : Bool) → Apart (inserted idles_before x ys) → Apart (cond t (y ∷ inserted idles_before x ys) (x ∷ y ∷ ys))
    by true rest = (all_inserted idles_before idle_orders (λ z. bytes_eq z.id y.id ≡ false) x ys (bytes_turn y.id x.id h.0) hs.0, rest)
    by false rest = (h, hs)

apart_ordered : (xs : List ObjectRow) → Apart xs → Apart (in_order idles_before xs)
apart_ordered [] h = tt
apart_ordered (x ∷ xs) h = apart_inserted x (in_order idles_before xs) (all_ordered idles_before idle_orders (λ y. bytes_eq y.id x.id ≡ false) xs h.0)
    (apart_ordered xs h.1)

apart_kept : (test : ObjectRow → Bool) (xs : List ObjectRow) → Apart xs → Apart (filter test xs)
apart_kept test [] h = tt
apart_kept test (x ∷ xs) h = by (test x) (apart_kept test xs h.1)
  where
    by : (t : Bool) → Apart (filter test xs) → Apart (cond t (x ∷ filter test xs) (filter test xs))
    by true rest = (all_kept _ test xs h.0, rest)
    by false rest = rest

apart : (xs : List ObjectRow) → are_object_ids_distinct xs ≡ true → Apart xs
apart [] e = tt
apart (x ∷ xs) e =
    let p = parts (list_all (λ other. not (bytes_eq x.id other)) (map (λ row. row.id) xs)) (are_object_ids_distinct xs) e in
    (each xs p.0, apart xs p.1)
  where
    each : (ys : List ObjectRow) → list_all (λ other. not (bytes_eq x.id other)) (map (λ row. row.id) ys) ≡ true
        → AllByRecursion (λ y. bytes_eq y.id x.id ≡ false) ys
    each [] f = tt
    each (y ∷ ys) f =
        let p = parts (not (bytes_eq x.id y.id)) (list_all (λ other. not (bytes_eq x.id other)) (map (λ row. row.id) ys)) f in
        (bytes_turn x.id y.id (not_true (bytes_eq x.id y.id) p.0), each ys p.1)

-- ---- the object that goes first

-- all objects but one
abbrev is_other : List ℕ → ObjectRow → Bool
is_other id row = not (bytes_eq row.id id)

rows_without : (id : List ℕ) (kept : List Kept) → objects_in (without_id id kept) ≡ filter (is_other id) (objects_in kept)
rows_without id [] = refl
rows_without id (k ∷ kept) = by (bytes_eq k.row.id id) (rows_without id kept)
  where
    by : (t : Bool) → objects_in (without_id id kept) ≡ filter (is_other id) (objects_in kept)
        → objects_in (cond (not t) (k ∷ without_id id kept) (without_id id kept)) ≡ cond (not t) (k.row ∷ filter (is_other id) (objects_in kept))
        (filter (is_other id) (objects_in kept))
    by true ih = ih
    by false ih = ap (λ l. k.row ∷ l) ih

neither : (a b : Bool) → (a || b) ≡ false → (a ≡ false) × (b ≡ false)
neither true b e = absurd (grind (arith, e))
neither false b e = (refl, e)

-- nothing refers to it, so its references are none
references_stay : (id : List ℕ) (kept : List Kept) → is_named (references_in kept) id ≡ false → references_in (without_id id kept) ≡ references_in kept
references_stay id [] e = refl
references_stay id (k ∷ kept) e =
    let p = neither (is_named (references_to k) id) (is_named (references_in kept) id)
    (sym (any_append (λ row. bytes_eq row.segment.object id) (references_to k) (references_in kept)) ∙ e) in
    by (bytes_eq k.row.id id) refl p.0 (references_stay id kept p.1)
  where
    none : (flows : List ℕ) → bytes_eq k.row.id id ≡ true → is_named (map (reference_of k.row.id) flows) id ≡ false → map (reference_of k.row.id) flows ≡ []
    none [] f g = refl
    none (x ∷ flows) f g = absurd (let h : true ≡ false = sym (ap (λ b. b || is_named (map (reference_of k.row.id) flows) id) f) ∙ g in grind (arith, h))

    by : (t : Bool) → bytes_eq k.row.id id ≡ t → is_named (references_to k) id ≡ false → references_in (without_id id kept) ≡ references_in kept
        → references_in (cond (not t) (k ∷ without_id id kept) (without_id id kept)) ≡ references_to k ++ references_in kept
    by true f g ih = ih ∙ sym (ap (λ l. l ++ references_in kept) (none k.flows f g))
    by false f g ih = ap (λ l. references_to k ++ l) ih

abbrev pub due : List Kept → ℕ → List ObjectRow
due kept moment = due_objects (references_in kept) (objects_in kept) moment

first_is : (xs : List ObjectRow) (row : ObjectRow) → first xs ≡ Some row → xs ≡ row ∷ drop 1 xs
first_is [] row e = absurd (grind (arith, e))
first_is (x ∷ xs) row e = ap (λ r. r ∷ xs) (some_same e)

pub first_of : (P : ObjectRow → Type 0) (xs : List ObjectRow) (row : ObjectRow) → AllByRecursion P xs → first xs ≡ Some row → P row
first_of P [] row h e = absurd (grind (arith, e))
first_of P (x ∷ xs) row h e = subst P (some_same e) h.0

-- what all objects have has the one that goes first
due_has : (P : ObjectRow → Type 0) (kept : List Kept) (moment : ℕ) (row : ObjectRow) → AllByRecursion P (objects_in kept) → first (due kept moment) ≡ Some row
    → P row
due_has P kept moment row h e =
    first_of P (due kept moment) row
    (all_ordered idles_before idle_orders P (filter (is_due (references_in kept) moment) (objects_in kept))
    (all_kept P (is_due (references_in kept) moment) (objects_in kept) h)) e

-- once it is gone the others are due
pub due_rest : (kept next : List Kept) (moment : ℕ) (row : ObjectRow) → are_object_ids_distinct (objects_in kept) ≡ true
    → first (due kept moment) ≡ Some row → next ≡ without_id row.id kept → due kept moment ≡ row ∷ due next moment
due_rest kept next moment row distinct e is =
    let refs = references_in kept in
    let all = due kept moment in
    let same_refs = references_stay row.id kept (due_unnamed refs (objects_in kept) moment row e) in
    let shape : all ≡ row ∷ drop 1 all = first_is all row e in
    let spread : Apart (row ∷ drop 1 all) = subst Apart shape (apart_ordered (filter (is_due refs moment) (objects_in kept))
    (apart_kept (is_due refs moment) (objects_in kept) (apart (objects_in kept) distinct))) in
    let left : filter (is_other row.id) all ≡ drop 1 all =
    ap (filter (is_other row.id)) shape ∙ rw (same_bytes row.id)
    (filter_all (is_other row.id) (drop 1 all) (all_map (λ y. bytes_eq y.id row.id ≡ false) (λ y. is_other row.id y ≡ true) (λ y f. ap not f) (drop 1 all)
    spread.0)) in
    let after : due next moment ≡ filter (is_other row.id) all =
    ap (λ k. due k moment) is
    ∙ ap (λ r. due_objects r (objects_in (without_id row.id kept)) moment) same_refs
    ∙ ap (λ l. in_order idles_before (filter (is_due refs moment) l)) (rows_without row.id kept)
    ∙ ap (in_order idles_before) (filter_swap (is_other row.id) (is_due refs moment) (objects_in kept))
    ∙ ordered_kept idles_before idle_orders (is_other row.id) (filter (is_due refs moment) (objects_in kept)) in
    shape ∙ ap (λ l. row ∷ l) (sym (after ∙ left))

pub references_same : (kept next : List Kept) (moment : ℕ) (row : ObjectRow) → first (due kept moment) ≡ Some row → next ≡ without_id row.id kept
    → references_in next ≡ references_in kept
references_same kept next moment row e is =
    ap references_in is ∙ references_stay row.id kept (due_unnamed (references_in kept) (objects_in kept) moment row e)

-- ---- ids and serials

-- among some objects, just the one of its id has its serial
abbrev AgreesOn : List ObjectRow → ObjectRow → Type 0
AgreesOn rows row = AllByRecursion (λ x. not (bytes_eq x.id row.id) ≡ not (row.serial == x.serial)) rows

agree_all : (xs : List ObjectRow) → Apart xs → rises_by (λ row. row.serial) xs ≡ true → AllByRecursion (AgreesOn xs) xs
agree_all [] h up = tt
agree_all (x ∷ xs) h up =
    let p = parts (list_all (λ y. nat_lt x.serial y.serial) xs) (rises_by (λ row. row.serial) xs) up in
    let lt = each_is (λ (y : ObjectRow). nat_lt x.serial y.serial) xs p.0 in
    ((own, behind xs h.0 lt), ahead xs h.0 lt (agree_all xs h.1 p.1))
  where
    own : not (bytes_eq x.id x.id) ≡ not (x.serial == x.serial)
    own = rw (same_bytes x.id, number_same x.serial) refl

    differ : (a b : ℕ) → nat_lt a b ≡ true → (a == b) ≡ false
    differ a b e = by (a == b) refl
      where
        by : (t : Bool) → (a == b) ≡ t → (a == b) ≡ false
        by true f = absurd (grind (arith, nat_tests))
        by false f = f

    behind : (ys : List ObjectRow) → AllByRecursion (λ y. bytes_eq y.id x.id ≡ false) ys → AllByRecursion (λ y. nat_lt x.serial y.serial ≡ true) ys
        → AgreesOn ys x
    behind [] f g = tt
    behind (y ∷ ys) f g = (rw (f.0, differ x.serial y.serial g.0) refl, behind ys f.1 g.1)

    ahead : (ys : List ObjectRow) → AllByRecursion (λ y. bytes_eq y.id x.id ≡ false) ys → AllByRecursion (λ y. nat_lt x.serial y.serial ≡ true) ys
        → AllByRecursion (AgreesOn xs) ys → AllByRecursion (AgreesOn (x ∷ xs)) ys
    ahead [] f g hs = tt
    ahead (y ∷ ys) f g hs = (
      (rw (bytes_turn y.id x.id f.0, number_turn y.serial x.serial, differ x.serial y.serial g.0) refl, hs.0),
      ahead ys f.1 g.1 hs.1,
    )

by_serial_is : (row : ObjectRow) (kept : List Kept) → AgreesOn (objects_in kept) row
    → without_id row.id kept ≡ filter (λ k. not (row.serial == k.row.serial)) kept
by_serial_is row kept h = agreed (λ k. not (bytes_eq k.row.id row.id)) (λ k. not (row.serial == k.row.serial)) kept (each kept h)
  where
    each : (ks : List Kept) → AgreesOn (objects_in ks) row → AllByRecursion (λ k. not (bytes_eq k.row.id row.id) ≡ not (row.serial == k.row.serial)) ks
    each [] g = tt
    each (k ∷ ks) g = (g.0, each ks g.1)

one_more_gone : (row : ObjectRow) (gone : List ObjectRow) (kept : List Kept)
    → filter (λ k. not (row.serial == k.row.serial)) (without_swept gone kept) ≡ without_swept (gone ++ row ∷ []) kept
one_more_gone row gone kept =
    filter_twice (λ k. not (row.serial == k.row.serial)) (λ k. not (list_any (λ other. other.serial == k.row.serial) gone)) kept
    ∙ agreed (λ k. not (list_any (λ other. other.serial == k.row.serial) gone) && not (row.serial == k.row.serial))
    (λ k. not (list_any (λ other. other.serial == k.row.serial) (gone ++ row ∷ []))) kept (each kept)
  where
    last : (a b : Bool) → (not a && not b) ≡ not (a || (b || false))
    last true b = refl
    last false true = refl
    last false false = refl

    each : (ks : List Kept) → AllByRecursion (λ k. (not (list_any (λ other. other.serial == k.row.serial) gone) && not (row.serial == k.row.serial))
        ≡ not (list_any (λ other. other.serial == k.row.serial) (gone ++ row ∷ []))) ks
    each [] = tt
    each (k ∷ ks) = (
      last (list_any (λ other. other.serial == k.row.serial) gone) (row.serial == k.row.serial)
          ∙ sym (ap not (any_append (λ other. other.serial == k.row.serial) gone (row ∷ []))),
      each ks,
    )

-- what is left of all is left of those that were left
pub left_again : (start kept next : List Kept) (moment : ℕ) (row : ObjectRow) (gone more : List ObjectRow) → are_object_ids_distinct (objects_in kept) ≡ true
    → rises_by (λ r. r.serial) (objects_in kept) ≡ true → first (due kept moment) ≡ Some row → next ≡ without_id row.id kept → kept ≡ without_swept gone start
    → more ≡ gone ++ row ∷ [] → next ≡ without_swept more start
left_again start kept next moment row gone more distinct up e is left ended =
    is
    ∙ by_serial_is row kept (due_has (AgreesOn (objects_in kept)) kept moment row (agree_all (objects_in kept) (apart (objects_in kept) distinct) up) e)
    ∙ ap (filter (λ k. not (row.serial == k.row.serial))) left
    ∙ one_more_gone row gone start
    ∙ ap (λ g. without_swept g start) (sym ended)

-- ---- what went, and what is due yet

pub taken_again : (n : ℕ) (gone more all rest next : List ObjectRow) (row : ObjectRow) → gone ++ take (suc n) rest ≡ all → rest ≡ row ∷ next
    → more ≡ gone ++ row ∷ [] → more ++ take n next ≡ all
taken_again n gone more all rest next row was shape ended =
    ap (λ l. l ++ take n next) ended ∙ sym (append_one gone row (take n next)) ∙ sym (ap (λ l. gone ++ take (suc n) l) shape) ∙ was

pub none_taken : (n : ℕ) (gone all rest : List ObjectRow) → gone ++ take n rest ≡ all → first rest ≡ None → gone ≡ all
none_taken n gone all [] was e = sym (append_nothing gone) ∙ ap (λ l. gone ++ l) (sym (nothing n [] refl)) ∙ was
  where
    nothing : (m : ℕ) (xs : List ObjectRow) → xs ≡ [] → take m xs ≡ []
    nothing zero xs f = refl
    nothing (suc m) [] f = refl
    nothing (suc m) (x ∷ xs) f = absurd (grind (arith, f))
none_taken n gone all (x ∷ rest) was e = absurd (grind (arith, e))

pub all_taken_is : (gone all rest : List ObjectRow) → gone ++ take 0 rest ≡ all → gone ≡ all
all_taken_is gone all rest was = sym (append_nothing gone) ∙ was

pub few_taken : (n : ℕ) (xs : List ObjectRow) → length (take n xs) ≤ n
few_taken zero xs = omega arith
few_taken (suc n) [] = omega arith
few_taken (suc n) (x ∷ xs) = let le = few_taken n xs in omega (arith, le)

pub swept_rows : (gone : List ObjectRow) (kept : List Kept) → objects_in (without_swept gone kept) ≡ without_objects gone (objects_in kept)
swept_rows gone [] = refl
swept_rows gone (k ∷ kept) = by (list_any (λ other. other.serial == k.row.serial) gone) (swept_rows gone kept)
  where
    by : (t : Bool) → objects_in (without_swept gone kept) ≡ without_objects gone (objects_in kept)
        → objects_in (cond (not t) (k ∷ without_swept gone kept) (without_swept gone kept)) ≡ cond (not t) (k.row ∷ without_objects gone (objects_in kept))
        (without_objects gone (objects_in kept))
    by true ih = ih
    by false ih = ap (λ l. k.row ∷ l) ih

one_left : (taken : ℕ) → taken < 16 → sweep_size - taken ≡ suc (sweep_size - (taken + 1))
one_left taken lt = omega (arith, lt)

none_left : (taken : ℕ) → 16 ≤ taken → sweep_size - taken ≡ 0
none_left taken le = omega (arith, le)

pub sweeping_starts : (moment : ℕ) (kept left : List Kept) (gone : List ObjectRow) → left ≡ kept → gone ≡ [] → Sweeping moment 0 kept left gone
sweeping_starts moment kept left gone is none =
    rw (is, none) (record {
      all = refl;
      left = sym (filter_all (λ k. not false) kept (each kept));
      references = refl;
    })
  where
    each : (ks : List Kept) → AllByRecursion (λ k. not false ≡ true) ks
    each [] = tt
    each (k ∷ ks) = (refl, each ks)

pub sweeping_more : (moment taken : ℕ) (start kept next : List Kept) (gone more : List ObjectRow) (row : ObjectRow) → taken < 16
    → are_object_ids_distinct (objects_in kept) ≡ true → rises_by (λ r. r.serial) (objects_in kept) ≡ true → first (due kept moment) ≡ Some row
    → next ≡ without_id row.id kept → more ≡ gone ++ row ∷ [] → Sweeping moment taken start kept gone → Sweeping moment (taken + 1) start next more
sweeping_more moment taken start kept next gone more row lt distinct up e is ended was = record {
  all = taken_again (sweep_size - (taken + 1)) gone more (take sweep_size (due start moment)) (due kept moment) (due next moment) row
      (subst (λ n. gone ++ take n (due kept moment) ≡ take sweep_size (due start moment)) (one_left taken lt) was.all)
      (due_rest kept next moment row distinct e is) ended;
  left = left_again start kept next moment row gone more distinct up e is was.left ended;
  references = references_same kept next moment row e is ∙ was.references;
}

pub sweeping_done : (moment taken : ℕ) (start kept : List Kept) (gone : List ObjectRow) → Sweeping moment taken start kept gone
    → first (due kept moment) ≡ None → gone ≡ take sweep_size (due start moment)
sweeping_done moment taken start kept gone was e = none_taken (sweep_size - taken) gone (take sweep_size (due start moment)) (due kept moment) was.all e

pub sweeping_full : (moment taken : ℕ) (start kept : List Kept) (gone : List ObjectRow) → Sweeping moment taken start kept gone → 16 ≤ taken
    → gone ≡ take sweep_size (due start moment)
sweeping_full moment taken start kept gone was le =
    all_taken_is gone (take sweep_size (due start moment)) (due kept moment)
    (subst (λ n. gone ++ take n (due kept moment) ≡ take sweep_size (due start moment)) (none_left taken le) was.all)

pub sweeping_few : (moment : ℕ) (start : List Kept) (gone : List ObjectRow) → gone ≡ take sweep_size (due start moment) → length gone ≤ sweep_size
sweeping_few moment start gone is = subst (λ l. length l ≤ sweep_size) (sym is) (few_taken sweep_size (due start moment))

pub sweeping_rows : (moment taken : ℕ) (start kept : List Kept) (gone : List ObjectRow) → Sweeping moment taken start kept gone
    → objects_in kept ≡ without_objects gone (objects_in start)
sweeping_rows moment taken start kept gone was = ap objects_in was.left ∙ swept_rows gone start
