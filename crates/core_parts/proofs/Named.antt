-- The refusal of an allocation of ids that a client names.
use Rattle.std.proofs.Common.{◌≡◌, ℕ, zero, suc, List, [], ◌∷◌, Option, Some, None, take, refl, sym, ap, subst, ◌∙◌, arith}
use Rattle.std.specs.Prelude.{Result, Err, slice_get}
use Rattle.media_rows.specs.declared.command.Want.TheVariants.{Named}
use Rattle.media_rows.specs.declared.refusal.BookFault.{BookFault}
use Rattle.media_rows.specs.declared.refusal.BookFault.TheVariants as books
use Rattle.media_rows.specs.declared.refusal.Refusal.{Refusal}
use Rattle.media_rows.specs.declared.refusal.Refusal.TheVariants.{IdTaken}
use Rattle.media_rows.specs.Answer.{change_refusal, first_taken, is_kept_object, is_taken, made_prefix, taken_refusal}
use Rattle.media_rows.specs.Library.{Library}
use Rattle.media_rows.specs.Lists.{or_else}
use Rattle.media_rows.specs.Refusals.{IsChange}
use Rattle.core_parts.specs.Conditions.{allocate_refusal}
use Rattle.core_parts.specs.Within.{front_length}
use Rattle.core_parts.proofs.Fronts.{first_of_front}

-- ---- a refusal, then the first id that is taken in a front, then the one behind it

free : (before : Option Refusal) (front behind : Option (List ℕ)) → or_else before (taken_refusal front) ≡ None → behind ≡ None
    → or_else before (taken_refusal (or_else front behind)) ≡ None
free None None behind e none = ap taken_refusal none
free None (Some id) behind e none = e
free (Some why) front behind e none = e

taken : (before : Option Refusal) (front behind : Option (List ℕ)) (id : List ℕ) → or_else before (taken_refusal front) ≡ None → behind ≡ Some id
    → or_else before (taken_refusal (or_else front behind)) ≡ Some (IdTaken id)
taken None None behind id e some = ap taken_refusal some
taken None (Some other) behind id e some = absurd (grind (arith, e))
taken (Some why) front behind id e some = absurd (grind (arith, e))

refused : (before : Option Refusal) (front behind : Option (List ℕ)) (why : Refusal) → or_else before (taken_refusal front) ≡ Some why
    → or_else before (taken_refusal (or_else front behind)) ≡ Some why
refused None None behind why e = absurd (grind (arith, e))
refused None (Some id) behind why e = e
refused (Some other) front behind why e = e

-- a list is all of its front where nothing stands behind that
none_past : {X : Type 0} (xs : List X) (n : ℕ) → slice_get xs n ≡ None → take n xs ≡ xs
none_past [] zero e = refl
none_past [] (suc n) e = refl
none_past (x ∷ xs) zero e = absurd (grind (arith, e))
none_past (x ∷ xs) (suc n) e = ap (λ ys. x ∷ ys) (none_past xs n e)

-- ---- the refusal

-- the refusal of the ids that a client names
abbrev pub named_refusal : Library → ℕ → List (List ℕ) → Option Refusal
named_refusal library flow ids = or_else (change_refusal library flow) (taken_refusal (first_taken (is_taken library (Named ids)) [] ids))

named_is : (library : Library) (flow : ℕ) (ids : List (List ℕ)) (n : ℕ) → n ≡ front_length (made_prefix library.id) ids
    → named_refusal library flow ids
    ≡ or_else (change_refusal library flow) (taken_refusal (or_else (first_taken (is_kept_object library) [] (take n ids)) (slice_get ids n)))
named_is library flow ids n e =
    ap (λ o. or_else (change_refusal library flow) (taken_refusal o)) (first_of_front (is_kept_object library) (made_prefix library.id) [] ids)
    ∙ ap (λ m. or_else (change_refusal library flow) (taken_refusal (or_else (first_taken (is_kept_object library) [] (take m ids)) (slice_get ids m)))) (sym e)

pub named_free : (library : Library) (flow : ℕ) (ids : List (List ℕ)) (n : ℕ) → n ≡ front_length (made_prefix library.id) ids
    → allocate_refusal library flow (take n ids) ≡ None → slice_get ids n ≡ None
    → (named_refusal library flow ids ≡ None) × (take n ids ≡ ids)
named_free library flow ids n e calm none = (
  named_is library flow ids n e
      ∙ free (change_refusal library flow) (first_taken (is_kept_object library) [] (take n ids)) (slice_get ids n) calm none,
  none_past ids n none,
)

pub named_taken : (library : Library) (flow : ℕ) (ids : List (List ℕ)) (n : ℕ) (id : List ℕ) → n ≡ front_length (made_prefix library.id) ids
    → allocate_refusal library flow (take n ids) ≡ None → slice_get ids n ≡ Some id → named_refusal library flow ids ≡ Some (IdTaken id)
named_taken library flow ids n id e calm some =
    named_is library flow ids n e
    ∙ taken (change_refusal library flow) (first_taken (is_kept_object library) [] (take n ids)) (slice_get ids n) id calm some

pub named_fault : (library : Library) (flow : ℕ) (ids : List (List ℕ)) (n : ℕ) (next : Option Library) (other : Option Library) (fault : BookFault)
    → n ≡ front_length (made_prefix library.id) ids
    → IsChange (allocate_refusal library flow (take n ids)) other (Err fault) → IsChange (named_refusal library flow ids) next (Err fault)
named_fault library flow ids n next other (books.Refused why) e is =
    named_is library flow ids n e
    ∙ refused (change_refusal library flow) (first_taken (is_kept_object library) [] (take n ids)) (slice_get ids n) why is
named_fault library flow ids n next other books.Memory e is = tt
