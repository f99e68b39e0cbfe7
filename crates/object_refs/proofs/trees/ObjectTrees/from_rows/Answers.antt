use Rattle.std.proofs.Common.{◌≡◌, Err, true, subst}
use Rattle.std.specs.List.{list_all}
use Rattle.media_rows.specs.Objects.{is_stored_object}
use Rattle.media_rows.specs.Refusals.{Restores}
use Rattle.media_rows.specs.Restoring.{can_restore_objects}
use Rattle.object_refs.specs.References.{book_of, objects_in}
use Rattle.object_refs.specs.Within.Books.{are_names_distinct, bare_objects, referring}
use Rattle.media_rows.proofs.RestoringLemmas.{handed_on}
use Rattle.object_refs.proofs.Gathered.{book_refused, both_restore}
use Rattle.object_refs.proofs.trees.ObjectTrees.from_rows.Goals as goal

-- the references of the segments come to the objects
pub returns-in-Ok : goal.returns-in-Ok
returns-in-Ok c =
    let rows = c.args.objects.now in
    let bare = c.in-Ok.bare in
    let made : (are_names_distinct rows ≡ true) × (bare ≡ bare_objects rows) =
    subst (λ l. (are_names_distinct l ≡ true) × (bare ≡ bare_objects l)) c.items.ensures c.in-Ok.ensures in
    both_restore rows c.args.segments.now bare c.referred_by.result made
    (subst (λ l. Restores (list_all (λ s. is_stored_object (objects_in bare) s.segment.object) l) (referring l bare) c.referred_by.result)
    c.items-in-Ok.ensures c.referred_by.ensures)

-- ids or serials that repeat refuse all
pub returns-in-Err : goal.returns-in-Err
returns-in-Err c =
    let rows = c.args.objects.now in
    handed_on c.in-Err.fault (are_names_distinct rows) (can_restore_objects rows c.args.segments.now) (bare_objects rows) (book_of rows c.args.segments.now)
    (book_refused rows c.args.segments.now)
    (subst (λ l. Restores (are_names_distinct l) (bare_objects l) (Err c.in-Err.fault)) c.items.ensures c.in-Err.ensures)
