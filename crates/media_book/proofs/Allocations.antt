-- Objects of an allocation that come one after the other, and their refusals.
use Rattle.std.proofs.Common.{◌≡◌, ℕ, ◌+◌, Bool, true, false, List, [], ◌∷◌, Some, None, Err, refl, sym, ap, ◌∙◌, arith, append_assoc, append-nil}
use Rattle.std.specs.Prelude.{is_some}
use Rattle.media_rows.specs.declared.object.ObjectRow.{ObjectRow}
use Rattle.media_rows.specs.declared.object.ObjectState.TheVariants.{Allocated}
use Rattle.media_rows.specs.declared.refusal.BookFault.{BookFault}
use Rattle.media_rows.specs.declared.refusal.BookFault.TheVariants as books
use Rattle.media_rows.specs.declared.refusal.Refusal.{Refusal}
use Rattle.media_rows.specs.declared.refusal.Refusal.TheVariants.{IdTaken}
use Rattle.media_rows.specs.Answer.{taken_refusal}
use Rattle.media_rows.specs.Objects.{allocated_rows, object_of}
use Rattle.media_rows.specs.Refusals.{IsChange, when}
use Rattle.media_book.specs.Media.{Media, allocation_refusal, are_objects_below, with_allocated}
use Rattle.media_book.specs.Within.Ties.{Allocating}
use Rattle.media_book.proofs.Kept.{unless}
use Rattle.media_book.proofs.ObjectRows.{below_more, taken_after}

allocated_step : (media : Media) (serial moment : ℕ) (id : List ℕ) (later : List (List ℕ))
    → with_allocated (serial + 1) moment later (with_allocated serial moment (id ∷ []) media) ≡ with_allocated serial moment (id ∷ later) media
allocated_step media serial moment id later =
    ap (λ l. record { blocks = media.blocks; segments = media.segments; objects = l })
    (append_assoc media.objects (allocated_rows serial moment (id ∷ [])) (allocated_rows (serial + 1) moment later))

allocated_done : (media : Media) (serial moment : ℕ) → with_allocated serial moment [] media ≡ media
allocated_done media serial moment = ap (λ l. record { blocks = media.blocks; segments = media.segments; objects = l }) (append-nil media.objects)

-- the first id is kept
taken_first : (media : Media) (id : List ℕ) (later : List (List ℕ)) (why : Refusal)
    → when (is_some (object_of id media.objects)) (IdTaken id) ≡ Some why → allocation_refusal media (id ∷ later) ≡ Some why
taken_first media id later why e = by (is_some (object_of id media.objects)) refl e
  where
    by : (t : Bool) → is_some (object_of id media.objects) ≡ t → when t (IdTaken id) ≡ Some why → allocation_refusal media (id ∷ later) ≡ Some why
    by true et held = rw et held
    by false et held = absurd (grind (arith, held))

pub allocating_starts : (serial next moment : ℕ) (start media : Media) (ids : List (List ℕ)) → next ≡ serial → media ≡ start
    → are_objects_below serial start.objects ≡ true → Allocating serial next moment start media ids ids
allocating_starts serial next moment start media ids first same below =
    rw (same, first) (record { rest = refl; refusal = refl; below = below })

pub allocating_more : (serial next moment : ℕ) (start media after : Media) (all left later : List (List ℕ)) (id : List ℕ)
    → Allocating serial next moment start media all left → left ≡ id ∷ later → when (is_some (object_of id media.objects)) (IdTaken id) ≡ None
    → after ≡ with_allocated next moment (id ∷ []) media → Allocating serial (next + 1) moment start after all later
allocating_more serial next moment start media after all left later id was shape free is =
    let none = unless (is_some (object_of id media.objects)) (IdTaken id) free in
    rw is (record {
      rest = allocated_step media next moment id later ∙ ap (λ l. with_allocated next moment l media) (sym shape) ∙ was.rest;
      refusal = was.refusal ∙ ap (allocation_refusal media) shape
          ∙ ap taken_refusal (taken_after media.objects (new_row next moment id) later none);
      below = below_more next moment id media.objects was.below;
    })
  where
    new_row : ℕ → ℕ → List ℕ → ObjectRow
    new_row s m i = record { id = i; serial = s; state = Allocated; idle_since = m }

pub allocating_refused : (serial next moment : ℕ) (start media : Media) (all left later : List (List ℕ)) (id : List ℕ) (why : Refusal)
    → Allocating serial next moment start media all left → left ≡ id ∷ later → when (is_some (object_of id media.objects)) (IdTaken id) ≡ Some why
    → allocation_refusal start all ≡ Some why
allocating_refused serial next moment start media all left later id why was shape refused =
    was.refusal ∙ ap (allocation_refusal media) shape ∙ taken_first media id later why refused

-- the next one isn't added
pub allocating_fails : (serial next moment : ℕ) (start media after : Media) (all left later : List (List ℕ)) (id : List ℕ) (fault : BookFault)
    → Allocating serial next moment start media all left → left ≡ id ∷ later
    → IsChange (when (is_some (object_of id media.objects)) (IdTaken id)) after (Err fault)
    → IsChange (allocation_refusal start all) (with_allocated serial moment all start) (Err fault)
allocating_fails serial next moment start media after all left later id (books.Refused why) was shape is =
    allocating_refused serial next moment start media all left later id why was shape is
allocating_fails serial next moment start media after all left later id books.Memory was shape is = tt

pub allocating_done : (serial next moment : ℕ) (start media : Media) (all left : List (List ℕ)) → Allocating serial next moment start media all left
    → left ≡ [] → (allocation_refusal start all ≡ None) × (media ≡ with_allocated serial moment all start)
allocating_done serial next moment start media all left was none = (
  was.refusal ∙ ap (allocation_refusal media) none,
  sym (allocated_done media next moment) ∙ ap (λ l. with_allocated next moment l media) (sym none) ∙ was.rest,
)
