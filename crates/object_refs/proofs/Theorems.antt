-- Laws over books that callers need: what makes the conditions of the calls hold.
use Rattle.std.proofs.Common.{◌≡◌, ℕ, ◌<◌, ◌==◌, nat_lt, nat_le, Bool, true, false, not, ◌&&◌, ◌||◌, cond, if◌then◌else◌, List, [], ◌∷◌, ◌++◌, Option, Some, None, Result, Ok, Err, IfOk, ◌+◌, bytes_eq, filter, map, refl, sym, ap, subst, ◌∙◌, arith}
use Rattle.std.specs.List.{AllByRecursion, list_any}
use Rattle.std.proofs.lemmas.Bool.Decides.{nat_tests}
use Rattle.media_rows.specs.declared.refusal.BookFault.{BookFault}
use Rattle.media_rows.specs.declared.refusal.Refusal.{Refusal}
use Rattle.media_rows.specs.Refusals.{IsChange, when}
use Rattle.media_rows.specs.declared.object.ObjectRow.{ObjectRow}
use Rattle.media_rows.specs.declared.segment.SegmentRow.{SegmentRow}
use Rattle.media_rows.specs.Lists.{inserted}
use Rattle.media_rows.specs.Objects.{due_objects, idle_time, idles_before, is_due, is_named, is_stored_object, is_stored_row, object_of, references}
use Rattle.shared_tree.specs.Pairs.{first}
use Rattle.object_refs.specs.declared.kept.Kept.{Kept}
use Rattle.object_refs.specs.References.{are_below, changed_at, objects_in, reference_of, references_in, references_to, referred, refers, with_new}
use Rattle.object_refs.proofs.Inverse.{some_same}
use Rattle.object_refs.proofs.Referring.{refs_append, refs_same}
use Rattle.object_refs.proofs.Sweeping.{all_ordered, all_tested}

-- ---- an object that is due isn't named

not_true : (b : Bool) → not b ≡ true → b ≡ false
not_true true e = absurd (grind arith)
not_true false e = refl

and_first : (a b : Bool) → (a && b) ≡ true → a ≡ true
and_first true b e = refl
and_first false b e = absurd (grind (arith, e))

always : {X : Type 0} (P : X → Type 0) → ((x : X) → P x) → (xs : List X) → AllByRecursion P xs
always P f [] = tt
always P f (x ∷ xs) = (f x, always P f xs)

of_first : {X : Type 0} (P : X → Type 0) (xs : List X) (x : X) → AllByRecursion P xs → first xs ≡ Some x → P x
of_first P [] x h e = absurd (grind (arith, e))
of_first P (y ∷ ys) x h e = subst P (some_same e) h.0

pub due_unnamed : (segments : List SegmentRow) (objects : List ObjectRow) (moment : ℕ) (row : ObjectRow)
    → first (due_objects segments objects moment) ≡ Some row → is_named segments row.id ≡ false
due_unnamed segments objects moment row e =
    of_first (λ x. is_named segments x.id ≡ false) (due_objects segments objects moment) row
    (all_ordered (λ x. is_named segments x.id ≡ false) idles_before (filter (is_due segments moment) objects)
    (all_tested (λ x. is_named segments x.id ≡ false) (is_due segments moment) objects
    (always (λ x. is_due segments moment x ≡ true → is_named segments x.id ≡ false)
    (λ x due. not_true (is_named segments x.id) (and_first (not (is_named segments x.id)) (nat_le (x.idle_since + idle_time) moment) due)) objects)))
    e

-- ---- a flow that was referred refers

pub any_append : {X : Type 0} (test : X → Bool) (l r : List X) → list_any test (l ++ r) ≡ (list_any test l || list_any test r)
any_append test [] r = refl
any_append test (x ∷ l) r = by (test x) (any_append test l r)
  where
    by : (t : Bool) → list_any test (l ++ r) ≡ (list_any test l || list_any test r)
        → (t || list_any test (l ++ r)) ≡ ((t || list_any test l) || list_any test r)
    by true ih = refl
    by false ih = ih

or_left : (a b : Bool) → a ≡ true → (a || b) ≡ true
or_left true b e = refl
or_left false b e = absurd (grind (arith, e))

or_right : (a b : Bool) → b ≡ true → (a || b) ≡ true
or_right true b e = refl
or_right false b e = e

same_number : (n : ℕ) → (n == n) ≡ true
same_number n = grind (arith, nat_tests)

any_in : (own : List ℕ) (flow : ℕ) (flows : List ℕ) → list_any (λ row. row.flow == flow) (map (reference_of own) (inserted nat_lt flow flows)) ≡ true
any_in own flow [] = rw (same_number flow) refl
any_in own flow (f ∷ flows) = by (nat_lt f flow) (any_in own flow flows)
  where
    by : (t : Bool) → list_any (λ row. row.flow == flow) (map (reference_of own) (inserted nat_lt flow flows)) ≡ true
        → list_any (λ row. row.flow == flow) (map (reference_of own) (cond t (f ∷ inserted nat_lt flow flows) (flow ∷ f ∷ flows))) ≡ true
    by true ih = or_right (f == flow) (list_any (λ row. row.flow == flow) (map (reference_of own) (inserted nat_lt flow flows))) ih
    by false ih = rw (same_number flow) refl

pub referred_refers : (id : List ℕ) (flow : ℕ) (kept : List Kept) → is_stored_object (objects_in kept) id ≡ true
    → refers (references_in (changed_at id (referred flow) kept)) id flow ≡ true
referred_refers id flow [] e = absurd (grind (arith, e))
referred_refers id flow (k ∷ kept) e = by (bytes_eq k.row.id id) refl e (referred_refers id flow kept)
  where
    step : (x : Kept) (rest : List Kept)
        → (list_any (λ row. row.flow == flow) (references (references_to x) id) || refers (references_in rest) id flow) ≡ true
        → refers (references_in (x ∷ rest)) id flow ≡ true
    step x rest h = ap (list_any (λ row. row.flow == flow)) (refs_append (references_to x) (references_in rest) id)
        ∙ any_append (λ row. row.flow == flow) (references (references_to x) id) (references (references_in rest) id) ∙ h

    by : (t : Bool) → bytes_eq k.row.id id ≡ t → is_stored_row (cond t (Some k.row) (object_of id (objects_in kept))) ≡ true
        → (is_stored_object (objects_in kept) id ≡ true → refers (references_in (changed_at id (referred flow) kept)) id flow ≡ true)
        → refers (references_in ((if t then referred flow k else k) ∷ changed_at id (referred flow) kept)) id flow ≡ true
    by true et stored ih =
        step (referred flow k) (changed_at id (referred flow) kept)
        (or_left (list_any (λ row. row.flow == flow) (references (references_to (referred flow k)) id))
        (refers (references_in (changed_at id (referred flow) kept)) id flow)
        (ap (list_any (λ row. row.flow == flow)) (refs_same k.row.id id (inserted nat_lt flow k.flows) et) ∙ any_in k.row.id flow k.flows))
    by false et stored ih =
        step k (changed_at id (referred flow) kept)
        (or_right (list_any (λ row. row.flow == flow) (references (references_to k) id)) (refers (references_in (changed_at id (referred flow) kept)) id flow)
        (ih stored))

-- ---- serials above those of a book

pub below_new : (id : List ℕ) (serial above moment : ℕ) (kept : List Kept) → are_below serial kept ≡ true → serial < above
    → are_below above (with_new id serial moment kept) ≡ true
below_new id serial above moment [] e lt = rw (lower serial above lt) refl
  where
    lower : (a b : ℕ) → a < b → nat_lt a b ≡ true
    lower a b l = grind (arith, nat_tests)
below_new id serial above moment (k ∷ kept) e lt = by (nat_lt k.row.serial serial) refl e (λ f. below_new id serial above moment kept f lt)
  where
    lower : (a b c : ℕ) → nat_lt a b ≡ true → b < c → nat_lt a c ≡ true
    lower a b c l m = grind (arith, nat_tests)

    by : (t : Bool) → nat_lt k.row.serial serial ≡ t → (t && are_below serial kept) ≡ true
        → (are_below serial kept ≡ true → are_below above (with_new id serial moment kept) ≡ true)
        → (nat_lt k.row.serial above && are_below above (with_new id serial moment kept)) ≡ true
    by true et f ih = rw (lower k.row.serial serial above et lt) (ih f)
    by false et f ih = absurd (grind (arith, f))

pub below_after : (id : List ℕ) (serial moment : ℕ) (kept : List Kept) (refusal : Option Refusal) (result : Result (List Kept) BookFault)
    → are_below serial kept ≡ true → IsChange refusal (with_new id serial moment kept) result → IfOk result (λ next. are_below (serial + 1) next ≡ true)
below_after id serial moment kept refusal (Ok next) below is =
    subst (λ k. are_below (serial + 1) k ≡ true) (sym is.1) (below_new id serial (serial + 1) moment kept below (omega arith))
below_after id serial moment kept refusal (Err fault) below is = tt

-- ---- a reference that came can go

unless_stored : (stored : Bool) (why : Refusal) → when (not stored) why ≡ None → stored ≡ true
unless_stored true why e = refl
unless_stored false why e = absurd (grind (arith, e))

pub refer_refers : (id : List ℕ) (flow : ℕ) (kept next : List Kept) (why : Refusal) → when (not (is_stored_object (objects_in kept) id)) why ≡ None
    → next ≡ changed_at id (referred flow) kept → refers (references_in next) id flow ≡ true
refer_refers id flow kept next why e is =
    subst (λ k. refers (references_in k) id flow ≡ true) (sym is) (referred_refers id flow kept (unless_stored (is_stored_object (objects_in kept) id) why e))
