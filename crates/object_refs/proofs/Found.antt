-- Objects that are found by their ids.
use Rattle.std.proofs.Common.{◌≡◌, ℕ, ℤ, pos, ◌<ℤ◌, int_eq, Bool, true, false, cond, List, [], ◌∷◌, Option, Some, None, bytes_eq, find, option_map, refl, sym, ap, subst, ◌∙◌, arith}
use Rattle.std.specs.List.{AllByRecursion}
use Rattle.media_rows.specs.Objects.{object_of}
use Rattle.shared_tree.specs.Pairs.{IsRising, is_at, value_at, values}
use Rattle.shared_tree.specs.Rows.{IsKeyedBy}
use Rattle.shared_tree.proofs.Rows.{found_is}
use Rattle.shared_tree.proofs.Rising.{all_map}
use Rattle.object_refs.specs.declared.kept.Kept.{Kept}
use Rattle.object_refs.specs.NameTables.{Names, serial_named}
use Rattle.object_refs.specs.References.{kept_of, objects_in}
use Rattle.object_refs.specs.Within.Names.{id_number}
use Rattle.object_refs.specs.Within.Books.{IsInverse, id_at, name_at}
use Rattle.object_refs.proofs.Inverse.{clash, some_same}
use Rattle.object_refs.proofs.Looks.{below_differs, is_same, looked_here, looked_past, same_is}
use Rattle.object_refs.proofs.Naming.{bytes_same, same_bytes}

module _ {V : Type 0} where
  -- each pair is what is seen at its key
  pub all_looked : (ps : List (ℤ × V)) → IsRising ps → AllByRecursion (λ p. value_at p.0 ps ≡ Some p.1) ps
  all_looked [] rising = tt
  all_looked (p ∷ rest) rising = (looked_here p.0 p rest (is_same p.0 p.0 refl), both rest rising.0 (all_looked rest rising.1))
    where
      both : (qs : List (ℤ × V)) → AllByRecursion (λ q. p.0 <ℤ q.0) qs → AllByRecursion (λ q. value_at q.0 rest ≡ Some q.1) qs
          → AllByRecursion (λ q. value_at q.0 (p ∷ rest) ≡ Some q.1) qs
      both [] lt look = tt
      both (q ∷ qs) lt look = (looked_past q.0 p rest (below_differs p.0 q.0 lt.0) ∙ look.0, both qs lt.1 look.1)

  -- what holds of all values holds of one that is seen
  pub seen_holds : (P : ℤ → V → Type 0) (ps : List (ℤ × V)) (key : ℤ) (value : V) → AllByRecursion (λ p. P p.0 p.1) ps → value_at key ps ≡ Some value
      → P key value
  seen_holds P [] key value h e = absurd (grind (arith, e))
  seen_holds P (p ∷ rest) key value h e = by (int_eq p.0 key) refl (λ e'. seen_holds P rest key value h.1 e')
    where
      by : (t : Bool) → int_eq p.0 key ≡ t → (value_at key rest ≡ Some value → P key value) → P key value
      by true et ih =
          let at = same_is p.0 key et in
          let is : p.1 ≡ value = some_same (sym (looked_here key p rest et) ∙ e) in
          subst (λ v. P key v) is (subst (λ k. P k p.1) at h.0)
      by false et ih = ih (sym (looked_past key p rest et) ∙ e)

  -- a value that is found is seen at its own key
  pub found_seen : (own : V → ℤ) (test : V → Bool) (ps : List (ℤ × V)) (value : V) → IsRising ps → IsKeyedBy own ps → find test (values ps) ≡ Some value
      → (value_at (own value) ps ≡ Some value) × (test value ≡ true)
  found_seen own test [] value rising keyed e = absurd (grind (arith, e))
  found_seen own test (p ∷ rest) value rising keyed e = by (test p.1) refl e (λ e'. found_seen own test rest value rising.1 keyed.1 e')
    where
      by : (t : Bool) → test p.1 ≡ t → cond t (Some p.1) (find test (values rest)) ≡ Some value
          → (find test (values rest) ≡ Some value → (value_at (own value) rest ≡ Some value) × (test value ≡ true))
          → (value_at (own value) (p ∷ rest) ≡ Some value) × (test value ≡ true)
      by true et f ih =
          let is : p.1 ≡ value = some_same f in
          (looked_here (own value) p rest (is_same p.0 (own value) (keyed.0 ∙ ap own is)) ∙ ap (λ v. Some v) is, ap test (sym is) ∙ et)
      by false et f ih =
          let later = ih f in
          let above : p.0 <ℤ own value = seen_holds (λ k v. p.0 <ℤ k) rest (own value) value rising.0 later.0 in
          (looked_past (own value) p rest (below_differs p.0 (own value) above) ∙ later.0, later.1)

  pub none_found : (test : V → Bool) (ps : List (ℤ × V)) → AllByRecursion (λ p. test p.1 ≡ false) ps → find test (values ps) ≡ None
  none_found test [] h = refl
  none_found test (p ∷ ps) h = rw h.0 (none_found test ps h.1)

abbrev Rows : Type 0
Rows = List (ℤ × Kept)

-- whether a row has the id is whether it stands at the id's serial
pub tests_at : (id : List ℕ) (s : ℤ) (kept : Kept) (rows : Rows) (names : Names) → IsRising rows → IsInverse (id_at rows) (name_at names)
    → value_at s rows ≡ Some kept → kept.row.id ≡ id → AllByRecursion (λ p. bytes_eq p.1.row.id id ≡ is_at s p) rows
tests_at id s kept rows names rising inverse here has =
    all_map (λ p. value_at p.0 rows ≡ Some p.1) (λ p. bytes_eq p.1.row.id id ≡ is_at s p) one rows (all_looked rows rising)
  where
    serial : name_at names id ≡ Some s
    serial = inverse.out s id (ap (option_map (λ k. k.row.id)) here ∙ ap (λ i. Some i) has)

    one : (p : ℤ × Kept) → value_at p.0 rows ≡ Some p.1 → bytes_eq p.1.row.id id ≡ is_at s p
    one p look = by (bytes_eq p.1.row.id id) (is_at s p) refl refl
      where
        by : (b t : Bool) → bytes_eq p.1.row.id id ≡ b → is_at s p ≡ t → b ≡ t
        by true true eb et = refl
        by false false eb et = refl
        by true false eb et =
            let found = inverse.out p.0 id (ap (option_map (λ k. k.row.id)) look ∙ ap (λ i. Some i) (same_bytes p.1.row.id id eb)) in
            clash (is_same p.0 s (some_same (sym found ∙ serial))) et
        by false true eb et =
            let same : p.1 ≡ kept = some_same (sym look ∙ ap (λ k. value_at k rows) (same_is p.0 s et) ∙ here) in
            sym (clash (bytes_same p.1.row.id id (ap (λ k. k.row.id) same ∙ has)) eb)

-- no row has an id without a serial
pub no_tests : (id : List ℕ) (rows : Rows) (names : Names) → IsRising rows → IsInverse (id_at rows) (name_at names) → name_at names id ≡ None
    → AllByRecursion (λ p. bytes_eq p.1.row.id id ≡ false) rows
no_tests id rows names rising inverse none =
    all_map (λ p. value_at p.0 rows ≡ Some p.1) (λ p. bytes_eq p.1.row.id id ≡ false) one rows (all_looked rows rising)
  where
    one : (p : ℤ × Kept) → value_at p.0 rows ≡ Some p.1 → bytes_eq p.1.row.id id ≡ false
    one p look = by (bytes_eq p.1.row.id id) refl
      where
        by : (b : Bool) → bytes_eq p.1.row.id id ≡ b → bytes_eq p.1.row.id id ≡ false
        by true eb = absurd (let found =
            inverse.out p.0 id (ap (option_map (λ k. k.row.id)) look ∙ ap (λ i. Some i) (same_bytes p.1.row.id id eb)) in let both =
            sym none ∙ found in grind (arith, both))
        by false eb = eb

-- the row at a serial that has the id
pub seen_at : (id : List ℕ) (s : ℤ) (rows : Rows) → id_at rows s ≡ Some id → (kept : Kept) × (value_at s rows ≡ Some kept) × (kept.row.id ≡ id)
seen_at id s rows e = by (value_at s rows) refl e
  where
    by : (o : Option Kept) → value_at s rows ≡ o → option_map (λ k. k.row.id) o ≡ Some id → (kept : Kept) × (value_at s rows ≡ Some kept) × (kept.row.id ≡ id)
    by None eo f = absurd (grind (arith, f))
    by (Some kept) eo f = (kept, eo, some_same f)

-- an id's serial leads to the object that a search finds
pub kept_found : (id : List ℕ) (serial : ℕ) (rows : Rows) (names : Names) → IsRising rows → IsInverse (id_at rows) (name_at names)
    → serial_named (id_number id) id names ≡ Some serial → value_at (pos serial) rows ≡ kept_of id (values rows)
kept_found id serial rows names rising inverse e =
    let at = seen_at id (pos serial) rows (inverse.home id (pos serial) (ap (option_map (λ n. pos n)) e)) in
    found_is (λ k. bytes_eq k.row.id id) (pos serial) rows (tests_at id (pos serial) at.0 rows names rising inverse at.1 at.2)

pub kept_none : (id : List ℕ) (rows : Rows) (names : Names) → IsRising rows → IsInverse (id_at rows) (name_at names)
    → serial_named (id_number id) id names ≡ None → kept_of id (values rows) ≡ None
kept_none id rows names rising inverse e = none_found (λ k. bytes_eq k.row.id id) rows (no_tests id rows names rising inverse (ap (option_map (λ n. pos n)) e))

-- an object that isn't found has no serial
pub unnamed : (id : List ℕ) (rows : Rows) (names : Names) → IsRising rows → IsInverse (id_at rows) (name_at names)
    → kept_of id (values rows) ≡ None → name_at names id ≡ None
unnamed id rows names rising inverse none = by (serial_named (id_number id) id names) refl
  where
    by : (o : Option ℕ) → serial_named (id_number id) id names ≡ o → option_map (λ n. pos n) o ≡ None
    by None e = refl
    by (Some serial) e =
        let at = seen_at id (pos serial) rows (inverse.home id (pos serial) (ap (option_map (λ n. pos n)) e)) in
        let both = sym at.1 ∙ kept_found id serial rows names rising inverse e ∙ none in
        absurd (grind (arith, both))

-- the object of an id among the objects
pub object_is : (id : List ℕ) (kept : List Kept) → object_of id (objects_in kept) ≡ option_map (λ k. k.row) (kept_of id kept)
object_is id [] = refl
object_is id (k ∷ kept) = by (bytes_eq k.row.id id) (object_is id kept)
  where
    by : (t : Bool) → object_of id (objects_in kept) ≡ option_map (λ x. x.row) (kept_of id kept)
        → cond t (Some k.row) (object_of id (objects_in kept)) ≡ option_map (λ x. x.row) (cond t (Some k) (kept_of id kept))
    by true ih = refl
    by false ih = ih
