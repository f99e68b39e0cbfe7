-- Objects stand by rising serial, and their ids are distinct.
use Rattle.std.proofs.Common.{◌≡◌, ℕ, ◌<◌, ℤ, pos, ◌<ℤ◌, nat_lt, Bool, true, false, not, ◌&&◌, List, [], ◌∷◌, Some, bytes_eq, map, option_map, refl, sym, ap, subst, ◌∙◌, arith}
use Rattle.std.specs.List.{AllByRecursion, list_all}
use Rattle.std.proofs.lemmas.Int.{ints}
use Rattle.std.proofs.lemmas.Bool.Decides.{nat_tests}
use Rattle.media_rows.specs.declared.object.ObjectRow.{ObjectRow}
use Rattle.media_rows.specs.Good.{are_object_ids_distinct, rises_by}
use Rattle.shared_tree.specs.Pairs.{IsRising, value_at, values}
use Rattle.shared_tree.specs.Rows.{IsKeyedBy}
use Rattle.object_refs.specs.declared.kept.Kept.{Kept}
use Rattle.object_refs.specs.NameTables.{Names}
use Rattle.object_refs.specs.References.{objects_in}
use Rattle.object_refs.specs.Within.Books.{IsInverse, id_at, kept_key, name_at}
use Rattle.object_refs.proofs.Found.{all_looked}
use Rattle.object_refs.proofs.Inverse.{some_same}
use Rattle.object_refs.proofs.Naming.{same_bytes}

abbrev Rows : Type 0
Rows = List (ℤ × Kept)

both : (a b : Bool) → a ≡ true → b ≡ true → (a && b) ≡ true
both true b ea eb = eb
both false b ea eb = ea

lower : (a b : ℕ) → pos a <ℤ pos b → nat_lt a b ≡ true
lower a b lt = let l : a < b = omega (arith, ints, lt) in grind (arith, nat_tests)

all_higher : (k : Kept) (rows : Rows) → IsKeyedBy kept_key rows → AllByRecursion (λ q. kept_key k <ℤ q.0) rows
    → list_all (λ (row : ObjectRow). nat_lt k.row.serial row.serial) (objects_in (values rows)) ≡ true
all_higher k [] keyed lt = refl
all_higher k (q ∷ rows) keyed lt =
    both (nat_lt k.row.serial q.1.row.serial) (list_all (λ (row : ObjectRow). nat_lt k.row.serial row.serial) (objects_in (values rows)))
    (lower k.row.serial q.1.row.serial (subst (λ z. kept_key k <ℤ z) keyed.0 lt.0)) (all_higher k rows keyed.1 lt.1)

pub serials_rise : (rows : Rows) → IsRising rows → IsKeyedBy kept_key rows → rises_by (λ (row : ObjectRow). row.serial) (objects_in (values rows)) ≡ true
serials_rise [] rising keyed = refl
serials_rise (p ∷ rows) rising keyed =
    both (list_all (λ (row : ObjectRow). nat_lt p.1.row.serial row.serial) (objects_in (values rows)))
    (rises_by (λ (row : ObjectRow). row.serial) (objects_in (values rows)))
    (all_higher p.1 rows keyed.1 (subst (λ z. AllByRecursion (λ q. z <ℤ q.0) rows) keyed.0 rising.0)) (serials_rise rows rising.1 keyed.1)

-- two places don't have one id
apart : (rows : Rows) (names : Names) (p q : ℤ × Kept) → IsInverse (id_at rows) (name_at names) → value_at p.0 rows ≡ Some p.1
    → value_at q.0 rows ≡ Some q.1 → p.0 <ℤ q.0 → not (bytes_eq p.1.row.id q.1.row.id) ≡ true
apart rows names p q inverse look look' lt = by (bytes_eq p.1.row.id q.1.row.id) refl
  where
    by : (t : Bool) → bytes_eq p.1.row.id q.1.row.id ≡ t → not t ≡ true
    by true e =
        let one = inverse.out p.0 q.1.row.id (ap (option_map (λ k. k.row.id)) look ∙ ap (λ i. Some i) (same_bytes p.1.row.id q.1.row.id e)) in
        let other = inverse.out q.0 q.1.row.id (ap (option_map (λ k. k.row.id)) look') in
        absurd (let same : p.0 ≡ q.0 = some_same (sym one ∙ other) in omega (arith, ints, same, lt))
    by false e = refl

ids_above : (rows : Rows) (names : Names) (p : ℤ × Kept) (qs : Rows) → IsInverse (id_at rows) (name_at names) → value_at p.0 rows ≡ Some p.1
    → AllByRecursion (λ q. value_at q.0 rows ≡ Some q.1) qs → AllByRecursion (λ q. p.0 <ℤ q.0) qs
    → list_all (λ id. not (bytes_eq p.1.row.id id)) (map (λ (row : ObjectRow). row.id) (objects_in (values qs))) ≡ true
ids_above rows names p [] inverse look looks lt = refl
ids_above rows names p (q ∷ qs) inverse look looks lt =
    both (not (bytes_eq p.1.row.id q.1.row.id)) (list_all (λ id. not (bytes_eq p.1.row.id id)) (map (λ (row : ObjectRow). row.id) (objects_in (values qs))))
    (apart rows names p q inverse look looks.0 lt.0) (ids_above rows names p qs inverse look looks.1 lt.1)

distinct_from : (rows : Rows) (names : Names) (qs : Rows) → IsInverse (id_at rows) (name_at names) → IsRising qs
    → AllByRecursion (λ q. value_at q.0 rows ≡ Some q.1) qs → are_object_ids_distinct (objects_in (values qs)) ≡ true
distinct_from rows names [] inverse rising looks = refl
distinct_from rows names (q ∷ qs) inverse rising looks =
    both (list_all (λ id. not (bytes_eq q.1.row.id id)) (map (λ (row : ObjectRow). row.id) (objects_in (values qs))))
    (are_object_ids_distinct (objects_in (values qs))) (ids_above rows names q qs inverse looks.0 looks.1 rising.0)
    (distinct_from rows names qs inverse rising.1 looks.1)

pub ids_distinct : (rows : Rows) (names : Names) → IsInverse (id_at rows) (name_at names) → IsRising rows
    → are_object_ids_distinct (objects_in (values rows)) ≡ true
ids_distinct rows names inverse rising = distinct_from rows names rows inverse rising (all_looked rows rising)
