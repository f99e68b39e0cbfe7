-- When a change of an object is refused.
use Rattle.std.proofs.Common.{◌≡◌, ℕ, Bool, true, false, not, cond, List, [], ◌∷◌, Option, Some, None, bytes_eq, is_some, option_map, refl, sym, ap, subst, ◌∙◌, arith}
use Rattle.media_rows.specs.declared.object.ObjectState.{ObjectState}
use Rattle.media_rows.specs.declared.object.ObjectState.TheVariants.{Allocated, Stored}
use Rattle.media_rows.specs.declared.refusal.Refusal.TheVariants.{NoObject, OtherBytes, UnknownObject}
use Rattle.media_rows.specs.Answer.{keep_refusal, keep_state}
use Rattle.media_rows.specs.Objects.{is_stored, is_stored_object, is_stored_row, object_of}
use Rattle.media_rows.specs.Refusals.{when}
use Rattle.object_refs.specs.declared.kept.Kept.{Kept}
use Rattle.object_refs.specs.References.{changed_at, kept_of, objects_in}
use Rattle.object_refs.specs.Within.Books.{stored_of}
use Rattle.object_refs.proofs.Found.{object_is}
use Rattle.object_refs.proofs.Inverse.{some_same}
use Rattle.object_refs.proofs.Naming.{same_bytes}

-- what is found by an id has it
pub found_id : (id : List ℕ) (kept : List Kept) (k : Kept) → kept_of id kept ≡ Some k → k.row.id ≡ id
found_id id [] k e = absurd (grind (arith, e))
found_id id (x ∷ kept) k e = by (bytes_eq x.row.id id) refl e (found_id id kept k)
  where
    by : (t : Bool) → bytes_eq x.row.id id ≡ t → cond t (Some x) (kept_of id kept) ≡ Some k → (kept_of id kept ≡ Some k → k.row.id ≡ id) → k.row.id ≡ id
    by true et f ih = ap (λ y. y.row.id) (sym (some_same f)) ∙ same_bytes x.row.id id et
    by false et f ih = ih f

pub found_again : (id : List ℕ) (kept : List Kept) (k : Kept) → kept_of id kept ≡ Some k → kept_of k.row.id kept ≡ Some k
found_again id kept k e = subst (λ i. kept_of i kept ≡ Some k) (sym (found_id id kept k e)) e

-- and is changed by it
pub changed_by : (id : List ℕ) (kept next : List Kept) (k : Kept) (change : Kept → Kept) → kept_of id kept ≡ Some k → next ≡ changed_at k.row.id change kept
    → next ≡ changed_at id change kept
changed_by id kept next k change e is = is ∙ ap (λ i. changed_at i change kept) (found_id id kept k e)

-- ---- storing

pub keep_none : (id : List ℕ) (kept : List Kept) → kept_of id kept ≡ None → keep_refusal (object_of id (objects_in kept)) ≡ Some UnknownObject
keep_none id kept e = ap keep_refusal (object_is id kept ∙ ap (option_map (λ k. k.row)) e)

pub keep_stored : (id : List ℕ) (kept : List Kept) (k : Kept) → kept_of id kept ≡ Some k → is_stored k.row.state ≡ true
    → keep_refusal (object_of id (objects_in kept)) ≡ Some OtherBytes
keep_stored id kept k e stored = ap keep_refusal (object_is id kept ∙ ap (option_map (λ x. x.row)) e) ∙ by k.row.state stored
  where
    by : (state : ObjectState) → is_stored state ≡ true → keep_state state ≡ Some OtherBytes
    by Allocated f = absurd (grind (arith, f))
    by (Stored start size digest) f = refl

pub keep_allocated : (id : List ℕ) (kept : List Kept) (k : Kept) → kept_of id kept ≡ Some k → is_stored k.row.state ≡ false
    → keep_refusal (object_of id (objects_in kept)) ≡ None
keep_allocated id kept k e stored = ap keep_refusal (object_is id kept ∙ ap (option_map (λ x. x.row)) e) ∙ by k.row.state stored
  where
    by : (state : ObjectState) → is_stored state ≡ false → keep_state state ≡ None
    by Allocated f = refl
    by (Stored start size digest) f = absurd (grind (arith, f))

-- ---- referring

stored_some : (o : Option Kept) → is_stored_row (option_map (λ k. k.row) o) ≡ is_some (stored_of o)
stored_some None = refl
stored_some (Some k) = by (is_stored k.row.state)
  where
    by : (t : Bool) → t ≡ is_some (cond t (Some k) None)
    by true = refl
    by false = refl

pub stored_is : (id : List ℕ) (kept : List Kept) → is_stored_object (objects_in kept) id ≡ is_some (stored_of (kept_of id kept))
stored_is id kept = ap is_stored_row (object_is id kept) ∙ stored_some (kept_of id kept)

pub stored_found : (o : Option Kept) (k : Kept) → stored_of o ≡ Some k → o ≡ Some k
stored_found None k e = absurd (grind (arith, e))
stored_found (Some x) k e = by (is_stored x.row.state) e
  where
    by : (t : Bool) → cond t (Some x) None ≡ Some k → Some x ≡ Some k
    by true f = f
    by false f = absurd (grind (arith, f))

pub refers_none : (id : List ℕ) (kept : List Kept) (copied : List ℕ) → stored_of (kept_of id kept) ≡ None → copied ≡ id
    → when (not (is_stored_object (objects_in kept) id)) (NoObject id) ≡ Some (NoObject copied)
refers_none id kept copied e ec = ap (λ b. when (not b) (NoObject id)) (stored_is id kept ∙ ap is_some e) ∙ ap (λ i. Some (NoObject i)) (sym ec)

pub refers_some : (id : List ℕ) (kept : List Kept) (k : Kept) → stored_of (kept_of id kept) ≡ Some k
    → when (not (is_stored_object (objects_in kept) id)) (NoObject id) ≡ None
refers_some id kept k e = ap (λ b. when (not b) (NoObject id)) (stored_is id kept ∙ ap is_some e)
