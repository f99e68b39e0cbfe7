-- The order of sweeps: the object that goes first.
use Rattle.std.proofs.Common.{◌≡◌, ℕ, ◌+◌, ◌*◌, ◌<◌, ◌≤◌, ◌^◌, ◌-◌, ◌==◌, ℤ, pos, negsuc, ◌<ℤ◌, ◌≤ℤ◌, int_eq, nat_lt, nat_le, Bool, true, false, not, ◌&&◌, ◌||◌, cond, List, [], ◌∷◌, Option, Some, None, filter, option_and_then, option_map, refl, sym, ap, subst, ◌∙◌, arith}
use Rattle.std.specs.List.{AllByRecursion, list_any}
use Rattle.std.proofs.lemmas.Int.{ints}
use Rattle.std.proofs.lemmas.Bool.Decides.{nat_tests}
use Rattle.media_rows.specs.declared.object.ObjectRow.{ObjectRow}
use Rattle.media_rows.specs.Lists.{in_order, inserted}
use Rattle.media_rows.specs.Views.{id_key}
use Rattle.media_rows.specs.Objects.{due_objects, idle_time, idles_before, is_due, is_named}
use Rattle.shared_tree.specs.Pairs.{IsRising, first, value_at, values}
use Rattle.shared_tree.specs.Rows.{IsKeyedBy}
use Rattle.shared_tree.proofs.Rising.{all_map, filter_none}
use Rattle.object_refs.specs.declared.kept.Kept.{Kept}
use Rattle.object_refs.specs.NameTables.{Names}
use Rattle.object_refs.specs.References.{objects_in, reference_of, references_in}
use Rattle.object_refs.specs.Within.Books.{IsBook, idle_key, idle_key_of, idle_serial, kept_key, key_if_idle}
use Rattle.object_refs.proofs.Changing.{any_map, has_any, named_is}
use Rattle.object_refs.proofs.Found.{all_looked, seen_holds, tests_at}
use Rattle.object_refs.proofs.Inverse.{none_some, some_same}
use Rattle.object_refs.proofs.Looks.{is_same, looked_here, looked_past}
use Rattle.object_refs.proofs.Moving.{and_then_some, key_there}
use Rattle.object_refs.proofs.Referring.{refs_at}

abbrev Rows : Type 0
Rows = List (ℤ × Kept)

-- ---- the first of some in order

all_inserted : {X : Type 0} (P : X → Type 0) (before : X → X → Bool) (x : X) (ys : List X) → P x → AllByRecursion P ys → AllByRecursion P (inserted before x ys)
all_inserted P before x [] h hs = (h, tt)
all_inserted P before x (y ∷ ys) h hs = by (before y x) (all_inserted P before x ys h hs.1)
  where
    by : (t : Bool) → AllByRecursion P (inserted before x ys) → AllByRecursion P (cond t (y ∷ inserted before x ys) (x ∷ y ∷ ys))
    by true rest = (hs.0, rest)
    by false rest = (h, hs)

pub all_ordered : {X : Type 0} (P : X → Type 0) (before : X → X → Bool) (xs : List X) → AllByRecursion P xs → AllByRecursion P (in_order before xs)
all_ordered P before [] h = tt
all_ordered P before (x ∷ xs) h = all_inserted P before x (in_order before xs) h.0 (all_ordered P before xs h.1)

-- an item stands behind none but this one
pub record Follows {X : Type 0} (before : X → X → Bool) (test : X → Bool) (m x : X) : Type 0 where
  pub not_ahead : before x m ≡ false
  pub behind : before m x ≡ false → x ≡ m
  pub tested : test x ≡ true → x ≡ m

pub least_first : {X : Type 0} (before : X → X → Bool) (test : X → Bool) (m : X) (xs : List X) → AllByRecursion (Follows before test m) xs
    → list_any test xs ≡ true → first (in_order before xs) ≡ Some m
least_first before test m [] h e = absurd (grind (arith, e))
least_first {X} before test m (x ∷ xs) h e = by (list_any test xs) (test x) refl refl e (λ e'. least_first before test m xs h.1 e')
  where
    in_front : (ys : List X) → AllByRecursion (Follows before test m) ys → x ≡ m → first (inserted before x ys) ≡ Some m
    in_front [] hs same = ap (λ z. Some z) same
    in_front (y ∷ ys) hs same = by' (before y x) refl
      where
        by' : (t : Bool) → before y x ≡ t → first (cond t (y ∷ inserted before x ys) (x ∷ y ∷ ys)) ≡ Some m
        by' true f = absurd (let g = sym f ∙ ap (before y) same ∙ hs.0.not_ahead in grind (arith, g))
        by' false f = ap (λ z. Some z) same

    stays : (ys : List X) → first ys ≡ Some m → first (inserted before x ys) ≡ Some m
    stays [] f = absurd (grind (arith, f))
    stays (y ∷ ys) f = by' (before y x) refl
      where
        by' : (t : Bool) → before y x ≡ t → first (cond t (y ∷ inserted before x ys) (x ∷ y ∷ ys)) ≡ Some m
        by' true g = f
        by' false g = ap (λ z. Some z) (h.0.behind (subst (λ z. before z x ≡ false) (some_same f) g))

    by : (some one : Bool) → list_any test xs ≡ some → test x ≡ one → (one || some) ≡ true → (list_any test xs ≡ true → first (in_order before xs) ≡ Some m)
        → first (inserted before x (in_order before xs)) ≡ Some m
    by true one es eo f ih = stays (in_order before xs) (ih es)
    by false true es eo f ih = in_front (in_order before xs) (all_ordered (Follows before test m) before xs h.1) (h.0.tested eo)
    by false false es eo f ih = absurd (grind (arith, f))

pub all_tested : {X : Type 0} (P : X → Type 0) (test : X → Bool) (xs : List X) → AllByRecursion (λ x. test x ≡ true → P x) xs
    → AllByRecursion P (filter test xs)
all_tested P test [] h = tt
all_tested P test (x ∷ xs) h = by (test x) refl (all_tested P test xs h.1)
  where
    by : (t : Bool) → test x ≡ t → AllByRecursion P (filter test xs) → AllByRecursion P (cond t (x ∷ filter test xs) (filter test xs))
    by true e rest = (h.0 e, rest)
    by false e rest = rest

all_rows : (P : ObjectRow → Type 0) (rows : Rows) → AllByRecursion (λ p. P p.1.row) rows → AllByRecursion P (objects_in (values rows))
all_rows P [] h = tt
all_rows P (p ∷ rows) h = (h.0, all_rows P rows h.1)

-- ---- which objects are due

-- an object is named where it has references
pub all_named : (rows : Rows) (names : Names) (idle : List (ℤ × ℕ)) → IsBook rows names idle → IsRising rows
    → AllByRecursion (λ p. is_named (references_in (values rows)) p.1.row.id ≡ has_any p.1.flows) rows
all_named rows names idle book rising =
    all_map (λ p. value_at p.0 rows ≡ Some p.1) (λ p. is_named (references_in (values rows)) p.1.row.id ≡ has_any p.1.flows) one rows (all_looked rows rising)
  where
    one : (p : ℤ × Kept) → value_at p.0 rows ≡ Some p.1 → is_named (references_in (values rows)) p.1.row.id ≡ has_any p.1.flows
    one p look =
        named_is (references_in (values rows)) p.1.row.id
        ∙ ap has_any (refs_at p.1.row.id p.0 rows p.1 rising (tests_at p.1.row.id p.0 p.1 rows names rising book.named look refl) look)
        ∙ any_map (reference_of p.1.row.id) p.1.flows

abbrev due : Rows → ℕ → ObjectRow → Bool
due rows moment = is_due (references_in (values rows)) moment

not_true : (b : Bool) → not b ≡ true → b ≡ false
not_true true e = absurd (grind arith)
not_true false e = refl

and_both : (a b : Bool) → (a && b) ≡ true → (a ≡ true) × (b ≡ true)
and_both true b e = (refl, e)
and_both false b e = absurd (grind (arith, e))

no_flows : {X : Type 0} (l : List X) → has_any l ≡ false → l ≡ []
no_flows [] e = refl
no_flows (x ∷ l) e = absurd (grind (arith, e))

-- none is due where each that has no references is idle for too short a time
pub none_due : (rows : Rows) (names : Names) (idle : List (ℤ × ℕ)) (moment : ℕ) → IsBook rows names idle → IsRising rows
    → AllByRecursion (λ p. p.1.flows ≡ [] → nat_le (p.1.row.idle_since + idle_time) moment ≡ false) rows
    → first (due_objects (references_in (values rows)) (objects_in (values rows)) moment) ≡ None
none_due rows names idle moment book rising short =
    ap (λ l. first (in_order idles_before l))
    (filter_none (due rows moment) (objects_in (values rows))
    (all_rows (λ row. due rows moment row ≡ false) rows (both rows short (all_named rows names idle book rising))))
  where
    both : (qs : Rows) → AllByRecursion (λ p. p.1.flows ≡ [] → nat_le (p.1.row.idle_since + idle_time) moment ≡ false) qs
        → AllByRecursion (λ p. is_named (references_in (values rows)) p.1.row.id ≡ has_any p.1.flows) qs
        → AllByRecursion (λ p. due rows moment p.1.row ≡ false) qs
    both [] s n = tt
    both (q ∷ qs) s n = (by (has_any q.1.flows) refl, both qs s.1 n.1)
      where
        by : (t : Bool) → has_any q.1.flows ≡ t → due rows moment q.1.row ≡ false
        by true e = rw (n.0 ∙ e) refl
        by false e = rw (n.0 ∙ e) (s.0 (no_flows q.1.flows e))

-- ---- the first of those without references

pub record IsFirst (rows : Rows) (k : Kept) : Type 0 where
  pub seen : value_at (kept_key k) rows ≡ Some k
  pub bare : k.flows ≡ []
  pub least : AllByRecursion (λ p. p.1.flows ≡ [] → idle_key k.row.idle_since k.row.serial ≤ℤ idle_key p.1.row.idle_since p.1.row.serial) rows

key_of_bare : (k : Kept) → k.flows ≡ [] → idle_key_of k ≡ Some (idle_key k.row.idle_since k.row.serial)
key_of_bare k e = ap (λ flows. key_if_idle flows k.row) e

bare_of_key : (k : Kept) (key : ℤ) → idle_key_of k ≡ Some key → k.flows ≡ []
bare_of_key k key e = by k.flows refl e
  where
    by : (flows : List ℕ) → k.flows ≡ flows → key_if_idle flows k.row ≡ Some key → k.flows ≡ []
    by [] ef f = ef
    by (x ∷ xs) ef f = absurd (grind (arith, f))

serial_some : (o : Option ℕ) (s : ℤ) → option_map (λ n. pos n) o ≡ Some s → (n : ℕ) × (o ≡ Some n)
serial_some None s e = absurd (grind (arith, e))
serial_some (Some n) s e = (n, refl)

-- the object at the first serial of the order
pub first_is : (rows : Rows) (names : Names) (idle : List (ℤ × ℕ)) (serial : ℕ) → IsBook rows names idle → IsRising rows → IsRising idle
    → first (values idle) ≡ Some serial → (k : Kept) × (value_at (pos serial) rows ≡ Some k) × IsFirst rows k
first_is rows names [] serial book rising rising' e = absurd (grind (arith, e))
first_is rows names (i ∷ idle) serial book rising rising' e =
    let at : i.1 ≡ serial = some_same e in
    let here : idle_serial (i ∷ idle) i.0 ≡ Some (pos serial) = ap (option_map (λ n. pos n)) (looked_here i.0 i idle (is_same i.0 i.0 refl))
    ∙ ap (λ n. Some (pos n)) at in
    let found = and_then_some idle_key_of (value_at (pos serial) rows) i.0 (book.swept.home i.0 (pos serial) here) in
    let key : i.0 ≡ idle_key found.0.row.idle_since found.0.row.serial = key_there found.0 i.0 found.2 in
    let own : pos serial ≡ kept_key found.0 = seen_holds (λ z v. z ≡ kept_key v) rows (pos serial) found.0 book.keyed found.1 in (
      found.0,
      found.1,
      record {
        seen = subst (λ z. value_at z rows ≡ Some found.0) own found.1;
        bare = bare_of_key found.0 i.0 found.2;
        least = all_map (λ p. value_at p.0 rows ≡ Some p.1)
            (λ p. p.1.flows ≡ [] → idle_key found.0.row.idle_since found.0.row.serial ≤ℤ idle_key p.1.row.idle_since p.1.row.serial)
            (λ p look bare. subst (λ z. z ≤ℤ idle_key p.1.row.idle_since p.1.row.serial) key (low p look bare)) rows (all_looked rows rising);
      },
    )
  where
    from : AllByRecursion (λ q. i.0 ≤ℤ q.0) (i ∷ idle)
    from = (omega (arith, ints), all_map (λ q. i.0 <ℤ q.0) (λ q. i.0 ≤ℤ q.0) (λ q lt. omega (arith, ints, lt)) idle rising'.0)

    low : (p : ℤ × Kept) → value_at p.0 rows ≡ Some p.1 → p.1.flows ≡ [] → i.0 ≤ℤ idle_key p.1.row.idle_since p.1.row.serial
    low p look bare =
        let there = book.swept.out p.0 (idle_key p.1.row.idle_since p.1.row.serial) (ap (option_and_then idle_key_of) look ∙ key_of_bare p.1 bare) in
        let value = serial_some (value_at (idle_key p.1.row.idle_since p.1.row.serial) (i ∷ idle)) p.0 there in
        seen_holds (λ z v. i.0 ≤ℤ z) (i ∷ idle) (idle_key p.1.row.idle_since p.1.row.serial) value.0 from value.1

-- nothing stands in an empty order
pub none_is : (rows : Rows) (names : Names) (idle : List (ℤ × ℕ)) (moment : ℕ) → IsBook rows names idle → IsRising rows
    → first (values idle) ≡ None → first (due_objects (references_in (values rows)) (objects_in (values rows)) moment) ≡ None
none_is rows names (i ∷ idle) moment book rising e = absurd (grind (arith, e))
none_is rows names [] moment book rising e =
    none_due rows names [] moment book rising
    (all_map (λ p. value_at p.0 rows ≡ Some p.1) (λ p. p.1.flows ≡ [] → nat_le (p.1.row.idle_since + idle_time) moment ≡ false)
    (λ p look bare. absurd (let f = none p look bare in grind (arith, f))) rows (all_looked rows rising))
  where
    none : (p : ℤ × Kept) → value_at p.0 rows ≡ Some p.1 → p.1.flows ≡ [] → true ≡ false
    none p look bare = none_some
        (book.swept.out p.0 (idle_key p.1.row.idle_since p.1.row.serial) (ap (option_and_then idle_key_of) look ∙ key_of_bare p.1 bare))

-- by moment and then by serial is by key
later : (m s n t : ℕ) → s < 2 ^ 64 → t < 2 ^ 64 → idle_key m s ≤ℤ idle_key n t → m * 2 ^ 64 + s ≤ n * 2 ^ 64 + t
later m s n t fs ft le = omega (arith, ints, le)

too_short : (m n at : ℕ) → m ≤ n → nat_le (m + idle_time) at ≡ false → nat_le (n + idle_time) at ≡ false
too_short m n at le f = grind (arith, nat_tests)

ordered : (n t m s : ℕ) → t < 2 ^ 64 → m * 2 ^ 64 + s ≤ n * 2 ^ 64 + t → (nat_lt n m || ((n == m) && nat_lt t s)) ≡ false
ordered n t m s ft le = grind (arith, nat_tests)

tied : (n t m s : ℕ) → t < 2 ^ 64 → s < 2 ^ 64 → m * 2 ^ 64 + s ≤ n * 2 ^ 64 + t → (nat_lt m n || ((m == n) && nat_lt s t)) ≡ false → t ≡ s
tied n t m s ft fs le e = grind (arith, nat_tests)

has_serial : (a b : ℕ) → a ≡ b → (a == b) ≡ true
has_serial a b e = grind (arith, nat_tests)

serial_has : (a b : ℕ) → (a == b) ≡ true → a ≡ b
serial_has a b e = grind (arith, nat_tests)

or_right : (a b : Bool) → b ≡ true → (a || b) ≡ true
or_right true b e = refl
or_right false b e = e

-- where the first isn't due, none is
pub not_over : (rows : Rows) (names : Names) (idle : List (ℤ × ℕ)) (moment : ℕ) (k : Kept) → IsBook rows names idle → IsRising rows
    → IsFirst rows k → nat_le (k.row.idle_since + idle_time) moment ≡ false
    → first (due_objects (references_in (values rows)) (objects_in (values rows)) moment) ≡ None
not_over rows names idle moment k book rising is e = none_due rows names idle moment book rising (both rows is.least book.small)
  where
    low : k.row.serial < 2 ^ 64
    low = seen_holds (λ z v. v.row.serial < 2 ^ 64) rows (kept_key k) k book.small is.seen

    both : (qs : Rows) → AllByRecursion (λ p. p.1.flows ≡ [] → idle_key k.row.idle_since k.row.serial ≤ℤ idle_key p.1.row.idle_since p.1.row.serial) qs
        → AllByRecursion (λ p. p.1.row.serial < 2 ^ 64) qs → AllByRecursion (λ p. p.1.flows ≡ [] → nat_le (p.1.row.idle_since + idle_time) moment ≡ false) qs
    both [] l s = tt
    both (q ∷ qs) l s = ((λ bare. short (later k.row.idle_since k.row.serial q.1.row.idle_since q.1.row.serial low s.0 (l.0 bare)) s.0), both qs l.1 s.1)
      where
        short : k.row.idle_since * 2 ^ 64 + k.row.serial ≤ q.1.row.idle_since * 2 ^ 64 + q.1.row.serial → q.1.row.serial < 2 ^ 64
            → nat_le (q.1.row.idle_since + idle_time) moment ≡ false
        short le fits = too_short k.row.idle_since q.1.row.idle_since moment (omega (arith, le, fits)) e

-- where it is due, it is the first that is
pub is_first_due : (rows : Rows) (names : Names) (idle : List (ℤ × ℕ)) (moment : ℕ) (k : Kept) → IsBook rows names idle → IsRising rows
    → IsFirst rows k → nat_le (k.row.idle_since + idle_time) moment ≡ true
    → first (due_objects (references_in (values rows)) (objects_in (values rows)) moment) ≡ Some k.row
is_first_due rows names idle moment k book rising is over =
    least_first idles_before same k.row (filter (due rows moment) (objects_in (values rows)))
    (all_tested (Follows idles_before same k.row) (due rows moment) (objects_in (values rows))
    (all_rows (λ row. due rows moment row ≡ true → Follows idles_before same k.row row) rows
    (each one rows is.least book.small (all_named rows names idle book rising) (all_looked rows rising) book.keyed)))
    (among rows is.seen)
  where
    same : ObjectRow → Bool
    same row = row.serial == k.row.serial

    low : k.row.serial < 2 ^ 64
    low = seen_holds (λ z v. v.row.serial < 2 ^ 64) rows (kept_key k) k book.small is.seen

    one : (p : ℤ × Kept) → (p.1.flows ≡ [] → idle_key k.row.idle_since k.row.serial ≤ℤ idle_key p.1.row.idle_since p.1.row.serial) → p.1.row.serial < 2 ^ 64
        → is_named (references_in (values rows)) p.1.row.id ≡ has_any p.1.flows → value_at p.0 rows ≡ Some p.1 → p.0 ≡ kept_key p.1
        → due rows moment p.1.row ≡ true → Follows idles_before (λ row. row.serial == k.row.serial) k.row p.1.row
    one p least fits named look key d = record {
      not_ahead = ordered p.1.row.idle_since p.1.row.serial k.row.idle_since k.row.serial fits le;
      behind = λ e. equal (tied p.1.row.idle_since p.1.row.serial k.row.idle_since k.row.serial fits low le e);
      tested = λ e. equal (serial_has p.1.row.serial k.row.serial e);
    }
      where
        bare : p.1.flows ≡ []
        bare = no_flows p.1.flows
            (sym named ∙ not_true (is_named (references_in (values rows)) p.1.row.id)
            (and_both (not (is_named (references_in (values rows)) p.1.row.id)) (nat_le (p.1.row.idle_since + idle_time) moment) d).0)

        le : k.row.idle_since * 2 ^ 64 + k.row.serial ≤ p.1.row.idle_since * 2 ^ 64 + p.1.row.serial
        le = later k.row.idle_since k.row.serial p.1.row.idle_since p.1.row.serial low fits (least bare)

        equal : p.1.row.serial ≡ k.row.serial → p.1.row ≡ k.row
        equal e = ap (λ x. x.row) (some_same (sym look ∙ ap (λ z. value_at z rows) (key ∙ ap (λ n. pos n) e) ∙ is.seen))

    each : ((p : ℤ × Kept) → (p.1.flows ≡ [] → idle_key k.row.idle_since k.row.serial ≤ℤ idle_key p.1.row.idle_since p.1.row.serial) → p.1.row.serial < 2 ^ 64
        → is_named (references_in (values rows)) p.1.row.id ≡ has_any p.1.flows → value_at p.0 rows ≡ Some p.1 → p.0 ≡ kept_key p.1
        → due rows moment p.1.row ≡ true → Follows idles_before (λ row. row.serial == k.row.serial) k.row p.1.row) → (qs : Rows)
        → AllByRecursion (λ p. p.1.flows ≡ [] → idle_key k.row.idle_since k.row.serial ≤ℤ idle_key p.1.row.idle_since p.1.row.serial) qs
        → AllByRecursion (λ p. p.1.row.serial < 2 ^ 64) qs → AllByRecursion (λ p. is_named (references_in (values rows)) p.1.row.id ≡ has_any p.1.flows) qs
        → AllByRecursion (λ p. value_at p.0 rows ≡ Some p.1) qs → IsKeyedBy kept_key qs
        → AllByRecursion (λ p. due rows moment p.1.row ≡ true → Follows idles_before (λ row. row.serial == k.row.serial) k.row p.1.row) qs
    each f [] a b c d g = tt
    each f (q ∷ qs) a b c d g = (f q a.0 b.0 c.0 d.0 g.0, each f qs a.1 b.1 c.1 d.1 g.1)

    is_due_too : due rows moment k.row ≡ true
    is_due_too = rw (seen_holds (λ z v. is_named (references_in (values rows)) v.row.id ≡ has_any v.flows) rows (kept_key k) k
        (all_named rows names idle book rising) is.seen ∙ ap has_any is.bare) over

    among : (qs : Rows) → value_at (kept_key k) qs ≡ Some k
        → list_any (λ row. row.serial == k.row.serial) (filter (due rows moment) (objects_in (values qs))) ≡ true
    among [] e = absurd (grind (arith, e))
    among (q ∷ qs) e = by (int_eq q.0 (kept_key k)) refl (due rows moment q.1.row) refl (λ e'. among qs e')
      where
        by : (t : Bool) → int_eq q.0 (kept_key k) ≡ t → (d : Bool) → due rows moment q.1.row ≡ d
            → (value_at (kept_key k) qs ≡ Some k → list_any (λ row. row.serial == k.row.serial) (filter (due rows moment) (objects_in (values qs))) ≡ true)
            → list_any (λ row. row.serial == k.row.serial)
            (cond d (q.1.row ∷ filter (due rows moment) (objects_in (values qs))) (filter (due rows moment) (objects_in (values qs)))) ≡ true
        by true et true ed ih = let same_kept : q.1 ≡ k =
            some_same (sym (looked_here (kept_key k) q qs et) ∙ e) in rw (has_serial q.1.row.serial k.row.serial (ap (λ x. x.row.serial) same_kept)) refl
        by true et false ed ih =
            absurd (let same_kept : q.1 ≡ k = some_same (sym (looked_here (kept_key k) q qs et) ∙ e) in let f =
            sym ed ∙ ap (λ x. due rows moment x.row) same_kept ∙ is_due_too in grind (arith, f))
        by false et true ed ih =
            or_right (q.1.row.serial == k.row.serial) (list_any (λ row. row.serial == k.row.serial) (filter (due rows moment) (objects_in (values qs))))
            (ih (sym (looked_past (kept_key k) q qs et) ∙ e))
        by false et false ed ih = ih (sym (looked_past (kept_key k) q qs et) ∙ e)

-- ---- the order's keys

abbrev least_key : ℤ
least_key = negsuc (2 ^ 127 - 1)

key_least : (n : ℕ) → least_key ≤ℤ id_key n
key_least n = omega (arith, ints)

pub idle_least : (rows : Rows) (names : Names) (idle : List (ℤ × ℕ)) → IsBook rows names idle → IsRising idle
    → AllByRecursion (λ p. negsuc (2 ^ 127 - 1) ≤ℤ p.0) idle
idle_least rows names idle book rising = all_map (λ p. value_at p.0 idle ≡ Some p.1) (λ p. negsuc (2 ^ 127 - 1) ≤ℤ p.0) one idle (all_looked idle rising)
  where
    one : (p : ℤ × ℕ) → value_at p.0 idle ≡ Some p.1 → negsuc (2 ^ 127 - 1) ≤ℤ p.0
    one p look =
        let found = and_then_some idle_key_of (value_at (pos p.1) rows) p.0 (book.swept.home p.0 (pos p.1) (ap (option_map (λ n. pos n)) look)) in
        subst (λ k. negsuc (2 ^ 127 - 1) ≤ℤ k) (sym (key_there found.0 p.0 found.2)) (key_least (found.0.row.idle_since * 2 ^ 64 + found.0.row.serial))

pub rows_least : (rows : Rows) → IsKeyedBy kept_key rows → AllByRecursion (λ p. negsuc (2 ^ 127 - 1) ≤ℤ p.0) rows
rows_least rows keyed = all_map (λ p. p.0 ≡ kept_key p.1) (λ p. negsuc (2 ^ 127 - 1) ≤ℤ p.0) (λ p e. rw e (omega (arith, ints))) rows keyed

-- a look at the first serial finds an object
pub first_seen : (rows : Rows) (names : Names) (idle : List (ℤ × ℕ)) (serial : ℕ) → IsBook rows names idle → IsRising rows → IsRising idle
    → first (values idle) ≡ Some serial → value_at (pos serial) rows ≡ None → true ≡ false
first_seen rows names idle serial book rising rising' e none = let found =
    first_is rows names idle serial book rising rising' e in none_some (sym none ∙ found.1)

-- and it is that object
pub first_found : (rows : Rows) (names : Names) (idle : List (ℤ × ℕ)) (serial : ℕ) (k : Kept) → IsBook rows names idle → IsRising rows
    → IsRising idle → first (values idle) ≡ Some serial → value_at (pos serial) rows ≡ Some k → IsFirst rows k
first_found rows names idle serial k book rising rising' e look = let found =
    first_is rows names idle serial book rising rising' e in subst (IsFirst rows) (some_same (sym found.1 ∙ look)) found.2
