-- What a change of one object keeps of a book's indexes.
use Rattle.std.proofs.Common.{◌≡◌, ℕ, ◌+◌, ◌*◌, ◌<◌, ◌^◌, ℤ, pos, int_eq, Bool, true, false, List, [], ◌∷◌, Option, Some, None, IfSome, bytes_eq, option_and_then, option_map, refl, sym, ap, subst, ◌∙◌, arith}
use Rattle.std.specs.List.{AllByRecursion}
use Rattle.shared_tree.specs.Pairs.{value_at, with_pair, without_key}
use Rattle.shared_tree.specs.Rows.{IsKeyedBy}
use Rattle.shared_tree.proofs.Rows.{keyed_with, keyed_without}
use Rattle.object_refs.specs.declared.kept.Kept.{Kept}
use Rattle.object_refs.specs.NameTables.{Names, Renames}
use Rattle.object_refs.specs.Within.Names.{id_number}
use Rattle.object_refs.specs.Within.Books.{IsBook, IsInverse, id_at, idle_at, idle_entered, idle_key, idle_key_of, idle_left, idle_serial, kept_key, key_if_idle, name_at}
use Rattle.object_refs.proofs.Inverse.{is_it, is_there, moved, some_same, unmoved}
use Rattle.object_refs.proofs.Looks.{all_with, all_without, is_same, looked_with, looked_with_other, looked_without, looked_without_other, same_is}
use Rattle.object_refs.proofs.Found.{seen_holds}
use Rattle.object_refs.proofs.Naming.{bytes_differ, bytes_same, other_id, same_bytes}
use Rattle.object_refs.proofs.Numbers.{same_number}

abbrev Rows : Type 0
Rows = List (ℤ × Kept)

abbrev Idle : Type 0
Idle = List (ℤ × ℕ)

abbrev is_key : Option ℤ → ℤ → Bool
is_key = is_it int_eq same_is is_same

abbrev is_id : Option (List ℕ) → List ℕ → Bool
is_id = is_it bytes_eq same_bytes bytes_same

-- ---- the order of sweeps

entered : (n : Option ℤ) (serial : ℕ) (idle : Idle) (k : ℤ) → is_key n k ≡ true → idle_serial (idle_entered n serial idle) k ≡ Some (pos serial)
entered None serial idle k e = absurd (grind (arith, e))
entered (Some key) serial idle k e =
    subst (λ z. idle_serial (with_pair (key, serial) idle) z ≡ Some (pos serial)) (same_is key k e)
    (ap (option_map (λ m. pos m)) (looked_with key serial idle))

not_entered : (n : Option ℤ) (serial : ℕ) (idle : Idle) (k : ℤ) → is_key n k ≡ false → idle_serial (idle_entered n serial idle) k ≡ idle_serial idle k
not_entered None serial idle k e = refl
not_entered (Some key) serial idle k e = ap (option_map (λ m. pos m)) (looked_with_other k key serial idle e)

gone : (o : Option ℤ) (idle : Idle) (k : ℤ) → is_key o k ≡ true → idle_serial (idle_left o idle) k ≡ None
gone None idle k e = absurd (grind (arith, e))
gone (Some key) idle k e = subst (λ z. idle_serial (without_key key idle) z ≡ None) (same_is key k e) (ap (option_map (λ m. pos m)) (looked_without key idle))

not_gone : (o : Option ℤ) (idle : Idle) (k : ℤ) → is_key o k ≡ false → idle_serial (idle_left o idle) k ≡ idle_serial idle k
not_gone None idle k e = refl
not_gone (Some key) idle k e = ap (option_map (λ m. pos m)) (looked_without_other k key idle e)

-- an idle key has one serial
pub one_serial : (m s n t : ℕ) → s < 2 ^ 64 → t < 2 ^ 64 → idle_key m s ≡ idle_key n t → s ≡ t
one_serial m s n t fs ft e = let same = same_number (m * 2 ^ 64 + s) (n * 2 ^ 64 + t) e in omega (arith, same, fs, ft)

pub key_there : (k : Kept) (key : ℤ) → idle_key_of k ≡ Some key → key ≡ idle_key k.row.idle_since k.row.serial
key_there k key e = by k.flows refl e
  where
    by : (flows : List ℕ) → k.flows ≡ flows → key_if_idle flows k.row ≡ Some key → key ≡ idle_key k.row.idle_since k.row.serial
    by [] ef f = sym (some_same f)
    by (x ∷ xs) ef f = absurd (grind (arith, f))

pub and_then_some : {X Y : Type 0} (f : X → Option Y) (o : Option X) (y : Y) → option_and_then f o ≡ Some y → (x : X) × (o ≡ Some x) × (f x ≡ Some y)
and_then_some f None y e = absurd (grind (arith, e))
and_then_some f (Some x) y e = (x, refl, e)

-- the new object of a serial, if there is one, has this serial
abbrev HasSerial : ℕ → Option Kept → Type 0
HasSerial serial new = IfSome new (λ k. k.row.serial ≡ serial)

new_serial : (serial : ℕ) (new : Option Kept) (k : Kept) → HasSerial serial new → new ≡ Some k → k.row.serial ≡ serial
new_serial serial None k h e = absurd (grind (arith, e))
new_serial serial (Some x) k h e = ap (λ z. z.row.serial) (sym (some_same e)) ∙ h

pub sweeps_move : (rows rows' : Rows) (idle : Idle) (serial : ℕ) (new : Option Kept) → IsKeyedBy kept_key rows
    → AllByRecursion (λ p. p.1.row.serial < 2 ^ 64) rows → serial < 2 ^ 64 → HasSerial serial new → value_at (pos serial) rows' ≡ new
    → ((t : ℤ) → int_eq (pos serial) t ≡ false → value_at t rows' ≡ value_at t rows) → IsInverse (idle_at rows) (idle_serial idle)
    → IsInverse (idle_at rows') (idle_serial (idle_entered (option_and_then idle_key_of new) serial (idle_left (idle_at rows (pos serial)) idle)))
sweeps_move rows rows' idle serial new keyed small fits has here elsewhere inverse =
    moved int_eq same_is is_same (idle_at rows) (idle_at rows') (idle_serial idle) (idle_serial idle') (pos serial) n inverse (record {
      here = ap (option_and_then idle_key_of) here;
      elsewhere = λ t e. ap (option_and_then idle_key_of) (elsewhere t e);
      entered = λ k e. entered n serial (idle_left o idle) k e;
      left = λ k en eo. not_entered n serial (idle_left o idle) k en ∙ gone o idle k eo;
      others = λ k en eo. not_entered n serial (idle_left o idle) k en ∙ not_gone o idle k eo;
      fresh = fresh;
    })
  where
    n : Option ℤ
    n = option_and_then idle_key_of new

    o : Option ℤ
    o = idle_at rows (pos serial)

    idle' : Idle
    idle' = idle_entered (option_and_then idle_key_of new) serial (idle_left (idle_at rows (pos serial)) idle)

    fresh : (k t : ℤ) → is_key (option_and_then idle_key_of new) k ≡ true → idle_serial idle k ≡ Some t → t ≡ pos serial
    fresh k t en back =
        let put = and_then_some idle_key_of new k (is_there int_eq same_is is_same (option_and_then idle_key_of new) k en) in
        let old = and_then_some idle_key_of (value_at t rows) k (inverse.home k t back) in
        let put_key = key_there put.0 k put.2 in
        let old_key = key_there old.0 k old.2 in
        let at : t ≡ pos old.0.row.serial = seen_holds (λ z v. z ≡ kept_key v) rows t old.0 keyed old.1 in
        let low : old.0.row.serial < 2 ^ 64 = seen_holds (λ z v. v.row.serial < 2 ^ 64) rows t old.0 small old.1 in
        let is = new_serial serial new put.0 has put.1 in
        at ∙ ap (λ z. pos z) (one_serial old.0.row.idle_since old.0.row.serial put.0.row.idle_since put.0.row.serial low
        (subst (λ z. z < 2 ^ 64) (sym is) fits) (sym old_key ∙ put_key) ∙ is)

-- ---- ids

-- the id of a serial stays, and so do all names
pub ids_stay : (rows rows' : Rows) (names : Names) (s : ℤ) (old new : Kept) → value_at s rows ≡ Some old → value_at s rows' ≡ Some new
    → new.row.id ≡ old.row.id → ((t : ℤ) → int_eq s t ≡ false → value_at t rows' ≡ value_at t rows) → IsInverse (id_at rows) (name_at names)
    → IsInverse (id_at rows') (name_at names)
ids_stay rows rows' names s old new was is same elsewhere inverse = unmoved (id_at rows) (id_at rows') (name_at names) inverse stays
  where
    stays : (t : ℤ) → id_at rows' t ≡ id_at rows t
    stays t = by (int_eq s t) refl
      where
        by : (b : Bool) → int_eq s t ≡ b → id_at rows' t ≡ id_at rows t
        by true e =
            subst (λ z. id_at rows' z ≡ id_at rows z) (same_is s t e)
            (ap (option_map (λ k. k.row.id)) is ∙ ap (λ i. Some i) same ∙ sym (ap (option_map (λ k. k.row.id)) was))
        by false e = ap (option_map (λ k. k.row.id)) (elsewhere t e)

-- a new id comes with a new serial
pub ids_come : (rows rows' : Rows) (names names' : Names) (id : List ℕ) (serial : ℕ) (new : Kept) → value_at (pos serial) rows ≡ None
    → value_at (pos serial) rows' ≡ Some new → new.row.id ≡ id → ((t : ℤ) → int_eq (pos serial) t ≡ false → value_at t rows' ≡ value_at t rows)
    → name_at names id ≡ None → Renames (id_number id) id (Some serial) names names' → IsInverse (id_at rows) (name_at names)
    → IsInverse (id_at rows') (name_at names')
ids_come rows rows' names names' id serial new was is has elsewhere none renames inverse =
    moved bytes_eq same_bytes bytes_same (id_at rows) (id_at rows') (name_at names) (name_at names') (pos serial) (Some id) inverse (record {
      here = ap (option_map (λ k. k.row.id)) is ∙ ap (λ i. Some i) has;
      elsewhere = λ t e. ap (option_map (λ k. k.row.id)) (elsewhere t e);
      entered = λ k e. subst (λ z. name_at names' z ≡ Some (pos serial)) (same_bytes id k e) (ap (option_map (λ m. pos m)) renames.this);
      left = λ k en eo. absurd
          (let f = is_there bytes_eq same_bytes bytes_same (id_at rows (pos serial)) k eo in let g = sym (ap (option_map (λ x. x.row.id)) was)
          ∙ f in grind (arith, g));
      others = λ k en eo. ap (option_map (λ m. pos m)) (renames.others (id_number k) k (λ e. other_id id k (bytes_differ id k en)));
      fresh = λ k t en back. absurd
          (let f : None ≡ Some t = sym none ∙ subst (λ z. name_at names z ≡ Some t) (sym (same_bytes id k en)) back in grind (arith, f));
    })

-- an id goes with its serial
pub ids_go : (rows rows' : Rows) (names names' : Names) (id : List ℕ) (s : ℤ) (old : Kept) → value_at s rows ≡ Some old → old.row.id ≡ id
    → value_at s rows' ≡ None → ((t : ℤ) → int_eq s t ≡ false → value_at t rows' ≡ value_at t rows) → Renames (id_number id) id None names names'
    → IsInverse (id_at rows) (name_at names) → IsInverse (id_at rows') (name_at names')
ids_go rows rows' names names' id s old was has is elsewhere renames inverse =
    moved bytes_eq same_bytes bytes_same (id_at rows) (id_at rows') (name_at names) (name_at names') s None inverse (record {
      here = ap (option_map (λ k. k.row.id)) is;
      elsewhere = λ t e. ap (option_map (λ k. k.row.id)) (elsewhere t e);
      entered = λ k e. absurd (grind (arith, e));
      left = λ k en eo. subst (λ z. name_at names' z ≡ None) (one k eo) (ap (option_map (λ m. pos m)) renames.this);
      others = λ k en eo. ap (option_map (λ m. pos m)) (renames.others (id_number k) k (λ e. other_id id k (other k eo)));
      fresh = λ k t en back. absurd (grind (arith, en));
    })
  where
    at : id_at rows s ≡ Some id
    at = ap (option_map (λ k. k.row.id)) was ∙ ap (λ i. Some i) has

    one : (k : List ℕ) → is_id (id_at rows s) k ≡ true → id ≡ k
    one k e = some_same (sym at ∙ is_there bytes_eq same_bytes bytes_same (id_at rows s) k e)

    other : (k : List ℕ) → is_id (id_at rows s) k ≡ false → bytes_eq k id ≡ false
    other k e = bytes_differ id k (subst (λ o. is_id o k ≡ false) at e)

-- ---- the book

-- an object of the book is changed
pub book_changes : (rows rows' : Rows) (names names' : Names) (idle idle' : Idle) (old new : Kept) → IsBook rows names idle
    → value_at (kept_key old) rows ≡ Some old → new.row.id ≡ old.row.id → new.row.serial ≡ old.row.serial → rows' ≡ with_pair (kept_key old, new) rows
    → names' ≡ names → idle' ≡ idle_entered (idle_key_of new) old.row.serial (idle_left (idle_key_of old) idle) → IsBook rows' names' idle'
book_changes rows rows' names names' idle idle' old new book was id serial er en ei =
    rw (er, en) (record {
      keyed = keyed_with kept_key (kept_key old) new rows (ap (λ s. pos s) (sym serial)) book.keyed;
      small = all_with (λ p. p.1.row.serial < 2 ^ 64) (kept_key old) new rows (subst (λ s. s < 2 ^ 64) (sym serial) low) book.small;
      named = ids_stay rows (with_pair (kept_key old, new) rows) names (kept_key old) old new was now id away book.named;
      swept = subst (λ l. IsInverse (idle_at (with_pair (kept_key old, new) rows)) (idle_serial l))
          (sym (ei ∙ ap (λ o. idle_entered (idle_key_of new) old.row.serial (idle_left o idle)) (sym (ap (option_and_then idle_key_of) was))))
          (sweeps_move rows (with_pair (kept_key old, new) rows) idle old.row.serial (Some new) book.keyed book.small low serial now away book.swept);
    })
  where
    low : old.row.serial < 2 ^ 64
    low = seen_holds (λ z v. v.row.serial < 2 ^ 64) rows (kept_key old) old book.small was

    now : value_at (kept_key old) (with_pair (kept_key old, new) rows) ≡ Some new
    now = looked_with (kept_key old) new rows

    away : (t : ℤ) → int_eq (kept_key old) t ≡ false → value_at t (with_pair (kept_key old, new) rows) ≡ value_at t rows
    away t e = looked_with_other t (kept_key old) new rows e

-- an object comes
pub book_gains : (rows rows' : Rows) (names names' : Names) (idle idle' : Idle) (new : Kept) → IsBook rows names idle
    → new.row.serial < 2 ^ 64 → value_at (kept_key new) rows ≡ None → name_at names new.row.id ≡ None → rows' ≡ with_pair (kept_key new, new) rows
    → Renames (id_number new.row.id) new.row.id (Some new.row.serial) names names' → idle' ≡ idle_entered (idle_key_of new) new.row.serial idle
    → IsBook rows' names' idle'
book_gains rows rows' names names' idle idle' new book low was none er renames ei =
    rw er (record {
      keyed = keyed_with kept_key (kept_key new) new rows refl book.keyed;
      small = all_with (λ p. p.1.row.serial < 2 ^ 64) (kept_key new) new rows low book.small;
      named = ids_come rows (with_pair (kept_key new, new) rows) names names' new.row.id new.row.serial new was now refl away none renames book.named;
      swept = subst (λ l. IsInverse (idle_at (with_pair (kept_key new, new) rows)) (idle_serial l))
          (sym (ei ∙ ap (λ o. idle_entered (idle_key_of new) new.row.serial (idle_left o idle)) (sym (ap (option_and_then idle_key_of) was))))
          (sweeps_move rows (with_pair (kept_key new, new) rows) idle new.row.serial (Some new) book.keyed book.small low refl now away book.swept);
    })
  where
    now : value_at (kept_key new) (with_pair (kept_key new, new) rows) ≡ Some new
    now = looked_with (kept_key new) new rows

    away : (t : ℤ) → int_eq (kept_key new) t ≡ false → value_at t (with_pair (kept_key new, new) rows) ≡ value_at t rows
    away t e = looked_with_other t (kept_key new) new rows e

-- an object goes
pub book_loses : (rows rows' : Rows) (names names' : Names) (idle idle' : Idle) (old : Kept) → IsBook rows names idle
    → value_at (kept_key old) rows ≡ Some old → rows' ≡ without_key (kept_key old) rows → Renames (id_number old.row.id) old.row.id None names names'
    → idle' ≡ idle_left (idle_key_of old) idle → IsBook rows' names' idle'
book_loses rows rows' names names' idle idle' old book was er renames ei =
    rw er (record {
      keyed = keyed_without kept_key (kept_key old) rows book.keyed;
      small = all_without (λ p. p.1.row.serial < 2 ^ 64) (kept_key old) rows book.small;
      named = ids_go rows (without_key (kept_key old) rows) names names' old.row.id (kept_key old) old was refl now away renames book.named;
      swept = subst (λ l. IsInverse (idle_at (without_key (kept_key old) rows)) (idle_serial l))
          (sym (ei ∙ ap (λ o. idle_left o idle) (sym (ap (option_and_then idle_key_of) was))))
          (sweeps_move rows (without_key (kept_key old) rows) idle old.row.serial None book.keyed book.small low tt now away book.swept);
    })
  where
    low : old.row.serial < 2 ^ 64
    low = seen_holds (λ z v. v.row.serial < 2 ^ 64) rows (kept_key old) old book.small was

    now : value_at (kept_key old) (without_key (kept_key old) rows) ≡ None
    now = looked_without (kept_key old) rows

    away : (t : ℤ) → int_eq (kept_key old) t ≡ false → value_at t (without_key (kept_key old) rows) ≡ value_at t rows
    away t e = looked_without_other t (kept_key old) rows e
