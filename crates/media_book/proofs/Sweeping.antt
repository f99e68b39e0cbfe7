-- Objects that go, whose blocks are given back one after the other.
use Rattle.std.proofs.Common.{◌≡◌, inl, inr, ℕ, ◌+◌, ◌≤◌, nat_le, nat_lt, Bool, true, false, not, List, [], ◌∷◌, ◌++◌, Option, Some, None, Contains, bytes_eq, filter, map, refl, sym, ap, ap₂, subst, ◌∙◌, arith}
use Rattle.std.specs.Prelude.{◌==◌}
use Rattle.std.specs.List.{AllByRecursion, list_all, list_any, sum}
use Rattle.std.proofs.lemmas.Bool.{and_parts}
use Rattle.media_rows.specs.declared.object.Digest.{Digest}
use Rattle.media_rows.specs.declared.object.ObjectRow.{ObjectRow}
use Rattle.media_rows.specs.declared.object.ObjectState.{ObjectState}
use Rattle.media_rows.specs.declared.object.ObjectState.TheVariants.{Allocated, Stored}
use Rattle.media_rows.specs.declared.segment.SegmentRow.{SegmentRow}
use Rattle.media_rows.specs.Good.{are_references_good, rises_by}
use Rattle.media_rows.specs.Lists.{are_distinct}
use Rattle.media_rows.specs.Objects.{due_objects, idle_time, idles_before, is_due, is_named, is_stored_object, is_stored_row, object_of, sweep_size, swept_objects, without_objects}
use Rattle.object_blobs.specs.Holes.{Area}
use Rattle.object_refs.specs.declared.kept.Kept.{Kept}
use Rattle.object_refs.specs.References.{objects_in}
use Rattle.delete_work.specs.Work.{without_swept}
use Rattle.shared_tree.proofs.Counted.{all_kept}
use Rattle.library_laws.proofs.ListLemmas.{In, In-filter, In-from_Contains, In-in_order, In-take, find-In, find-filter, list_all-In, list_all-from_In, list_any-In, list_any-from_In, rises-In, rises-filter}
use Rattle.reference_laws.specs.Ties.{AreTied, flows_to}
use Rattle.media_book.specs.Media.{stored_size, swept}
use Rattle.media_book.specs.Within.Ties.{AreHeld, AreSomeObjects, Freeing, IsLost, IsMedia, MayLose, media_seen, object_states}
use Rattle.media_book.proofs.Held.{may_give, sizes_amid, without_empty, without_extent}
use Rattle.media_book.proofs.ObjectRows.{bytes_turned, states_append}
use Rattle.media_book.proofs.Serials.{amid, are_two, distinct_of_two, kept_all, left_out, pairs_ordered, pairs_taken, some_left, there_of, two_of_rising, two_turned, without_twice}

-- the serial of an object
abbrev pub object_serial : ObjectRow → ℕ
object_serial row = row.serial

-- ---- one object amid others

may_lose : (f : List ObjectState) (s : ObjectState) (b : List ObjectState) (area : Area) (bytes : ℕ) → AreHeld (f ++ s ∷ b) area bytes
    → MayLose s area bytes
may_lose f Allocated b area bytes h = tt
may_lose f (Stored start size digest) b area bytes h =
    let give = may_give f b start size digest area bytes h in
    record {
      inside = give.0;
      taken = give.1;
      counted = fits (sum (map stored_size (f ++ b))) (h.counted ∙ sizes_amid f (Stored start size digest) b);
    }
  where
    fits : (n : ℕ) → bytes ≡ size + n → size ≤ bytes
    fits n e = omega (arith, e)

lost_held : (f : List ObjectState) (s : ObjectState) (b : List ObjectState) (area new : Area) (bytes after : ℕ) → AreHeld (f ++ s ∷ b) area bytes
    → IsLost s area new bytes after → AreHeld (f ++ b) new after × (new.blocks ≡ area.blocks)
lost_held f Allocated b area new bytes after h lost = (
  subst (λ a. AreHeld (f ++ b) a after) (sym lost.0) (subst (AreHeld (f ++ b) area) (sym lost.1) (without_empty f b area bytes h)),
  ap (λ a. a.blocks) lost.0,
)
lost_held f (Stored start size digest) b area new bytes after h lost = (
  subst (AreHeld (f ++ b) new) (sym lost.counted) (without_extent f b start size digest area new bytes h lost.given),
  lost.given.blocks,
)

-- ---- the loop

pub freeing_starts : (objects : List ObjectRow) (area new : Area) (bytes : ℕ) (gone : List ObjectRow) → new ≡ area
    → AreHeld (object_states objects) area bytes → AreSomeObjects gone objects → rises_by (λ (row : ObjectRow). row.serial) objects ≡ true
    → Freeing objects area.blocks new bytes gone gone
freeing_starts objects area new bytes gone same held some rise = record {
  objects = objects;
  rest = refl;
  held = subst (λ a. AreHeld (object_states objects) a bytes) (sym same) held;
  same = ap (λ a. a.blocks) same;
  some = some;
  rising = rise;
}

amid_states : (front : List ObjectRow) (row : ObjectRow) (back objects : List ObjectRow) → objects ≡ front ++ row ∷ back
    → object_states objects ≡ object_states front ++ row.state ∷ object_states back
amid_states front row back objects is = ap object_states is ∙ states_append front (row ∷ back)

pub freeing_row : (start : List ObjectRow) (blocks : ℕ) (area : Area) (bytes : ℕ) (all left later : List ObjectRow) (row : ObjectRow)
    → Freeing start blocks area bytes all left → left ≡ row ∷ later → MayLose row.state area bytes
freeing_row start blocks area bytes all left later row was shape =
    let there = (subst (λ l. AllByRecursion (Contains was.objects) l) shape was.some.there).0 in
    let at = amid row was.objects (In-from_Contains was.objects row there) in
    may_lose (object_states at.front) row.state (object_states at.back) area bytes
    (subst (λ l. AreHeld l area bytes) (amid_states at.front row at.back was.objects at.is) was.held)

pub freeing_more : (start : List ObjectRow) (blocks : ℕ) (area new : Area) (bytes after : ℕ) (all left later : List ObjectRow) (row : ObjectRow)
    → Freeing start blocks area bytes all left → left ≡ row ∷ later → IsLost row.state area new bytes after
    → Freeing start blocks new after all later
freeing_more start blocks area new bytes after all left later row was shape lost =
    let there = subst (λ l. AllByRecursion (Contains was.objects) l) shape was.some.there in
    let once = and_parts (list_all (λ serial. not (row.serial == serial)) (map (λ r. r.serial) later)) (are_distinct (map (λ r. r.serial) later))
    (subst (λ l. are_distinct (map (λ r. r.serial) l) ≡ true) shape was.some.once) in
    let at = amid row was.objects (In-from_Contains was.objects row there.0) in
    let left_is : without_objects (row ∷ []) was.objects ≡ at.front ++ at.back =
    ap (without_objects (row ∷ [])) at.is
    ∙ left_out object_serial at.front row at.back (subst (λ l. rises_by (λ (r : ObjectRow). r.serial) l ≡ true) at.is was.rising) in
    let held = lost_held (object_states at.front) row.state (object_states at.back) area new bytes after
    (subst (λ l. AreHeld l area bytes) (amid_states at.front row at.back was.objects at.is) was.held) lost in
    record {
      objects = without_objects (row ∷ []) was.objects;
      rest = without_twice object_serial row later was.objects ∙ ap (λ l. without_objects l was.objects) (sym shape) ∙ was.rest;
      held = subst (λ l. AreHeld l new after) (sym (ap object_states left_is ∙ states_append at.front at.back)) held.0;
      same = held.1 ∙ was.same;
      some = record { there = some_left object_serial row later was.objects there.1 once.0; once = once.1 };
      rising = rises-filter (λ (a : ObjectRow) b. nat_lt a.serial b.serial) _ was.objects was.rising;
    }

pub freeing_done : (start : List ObjectRow) (blocks : ℕ) (area : Area) (bytes : ℕ) (all left : List ObjectRow)
    → Freeing start blocks area bytes all left → left ≡ [] → AreHeld (object_states (without_objects all start)) area bytes × (area.blocks ≡ blocks)
freeing_done start blocks area bytes all left was none = (
  subst (λ l. AreHeld (object_states l) area bytes)
      (sym (kept_all object_serial was.objects) ∙ ap (λ l. without_objects l was.objects) (sym none) ∙ was.rest) was.held,
  was.same,
)

-- ---- those that are due

due_there : (segments : List SegmentRow) (objects : List ObjectRow) (moment : ℕ) (row : ObjectRow) → In row (swept_objects segments objects moment)
    → In row objects × (is_due segments moment row ≡ true)
due_there segments objects moment row here =
    In-filter (is_due segments moment) objects row
    (In-in_order idles_before (filter (is_due segments moment) objects) row (In-take sweep_size (due_objects segments objects moment) row here))

pub swept_some : (segments : List SegmentRow) (objects gone : List ObjectRow) (moment : ℕ) → rises_by (λ (row : ObjectRow). row.serial) objects ≡ true
    → gone ≡ swept_objects segments objects moment → AreSomeObjects gone objects
swept_some segments objects gone moment rise is =
    subst (λ l. AreSomeObjects l objects) (sym is)
    (record {
      there = there_of (swept_objects segments objects moment) objects (λ row here. (due_there segments objects moment row here).0);
      once = distinct_of_two object_serial (swept_objects segments objects moment)
          (pairs_taken (are_two object_serial) sweep_size (due_objects segments objects moment)
          (pairs_ordered idles_before (are_two object_serial) (two_turned object_serial) (filter (is_due segments moment) objects)
          ∙ rises-filter (are_two object_serial) (is_due segments moment) objects (two_of_rising object_serial objects rise)));
    })

-- an object that a segment names isn't due
named_stays : (segments : List SegmentRow) (objects : List ObjectRow) (moment : ℕ) (r : ObjectRow) → rises_by (λ (row : ObjectRow). row.serial) objects ≡ true
    → In r objects → is_named segments r.id ≡ true
    → not (list_any (λ (other : ObjectRow). other.serial == r.serial) (swept_objects segments objects moment)) ≡ true
named_stays segments objects moment r rise here named =
    by (list_any (λ (other : ObjectRow). other.serial == r.serial) (swept_objects segments objects moment)) refl
  where
    unlike : (b : Bool) → not b ≡ true → b ≡ true → ⊥
    unlike true e f = absurd (grind (arith, e))
    unlike false e f = absurd (grind (arith, f))

    due_named : (g : ObjectRow) → is_due segments moment g ≡ true → is_named segments g.id ≡ true → ⊥
    due_named g due is = unlike (is_named segments g.id) (and_parts (not (is_named segments g.id)) (nat_le (g.idle_since + idle_time) moment) due).0 is

    apart : (g : ObjectRow) → In g (swept_objects segments objects moment) → (g.serial == r.serial) ≡ true → ⊥
    apart g among same =
        let due = due_there segments objects moment g among in
        elim (rises-In (are_two object_serial) objects (two_of_rising object_serial objects rise) g r due.0 here) [
          | inl one ↦ due_named g due.1 (subst (λ o. is_named segments o.id ≡ true) (sym one) named)
          | inr (inl two) ↦ unlike (g.serial == r.serial) two same
          | inr (inr two) ↦ unlike (g.serial == r.serial) (two_turned object_serial g r ∙ two) same
        ]

    by : (b : Bool) → list_any (λ (other : ObjectRow). other.serial == r.serial) (swept_objects segments objects moment) ≡ b → not b ≡ true
    by false e = refl
    by true e =
        let found = list_any-In (λ (other : ObjectRow). other.serial == r.serial) (swept_objects segments objects moment) e in
        absurd (apart found.0 found.1 found.2)

stored_left : (segments : List SegmentRow) (objects : List ObjectRow) (moment : ℕ) (row : SegmentRow)
    → rises_by (λ (o : ObjectRow). o.serial) objects ≡ true → In row segments → is_stored_object objects row.segment.object ≡ true
    → is_stored_object (without_objects (swept_objects segments objects moment) objects) row.segment.object ≡ true
stored_left segments objects moment row rise here stored = by (object_of row.segment.object objects) refl stored
  where
    stays : ObjectRow → Bool
    stays o = not (list_any (λ (other : ObjectRow). other.serial == o.serial) (swept_objects segments objects moment))

    by : (o : Option ObjectRow) → object_of row.segment.object objects ≡ o → is_stored_row o ≡ true
        → is_stored_object (without_objects (swept_objects segments objects moment) objects) row.segment.object ≡ true
    by None e s = absurd (grind (arith, s))
    by (Some r) e s =
        let found = find-In (λ (o : ObjectRow). bytes_eq o.id row.segment.object) objects r e in
        let names : bytes_eq row.segment.object r.id ≡ true = bytes_turned row.segment.object r.id ∙ found.1 in
        let named = list_any-from_In (λ (s : SegmentRow). bytes_eq s.segment.object r.id) segments row here names in
        ap is_stored_row (find-filter (λ (o : ObjectRow). bytes_eq o.id row.segment.object) stays objects r e
        (named_stays segments objects moment r rise found.0 named)) ∙ s

-- ---- the media once they went

pub swept_is : (segments : List SegmentRow) (kept next : List Kept) (area new : Area) (bytes after : ℕ) (gone : List ObjectRow) (moment : ℕ)
    → IsMedia segments kept area bytes → rises_by (λ (row : ObjectRow). row.serial) (objects_in kept) ≡ true
    → gone ≡ swept_objects segments (objects_in kept) moment → next ≡ without_swept gone kept
    → objects_in next ≡ without_objects gone (objects_in kept)
    → AreHeld (object_states (without_objects gone (objects_in kept))) new after → IsMedia segments next new after
swept_is segments kept next area new bytes after gone moment was rise is left rows held =
    let all = objects_in kept in
    record {
      tied = subst (AreTied segments) (sym left) (all_kept (λ k. k.flows ≡ flows_to segments k.row.id) _ kept was.tied);
      named = ap (λ l. are_references_good l segments) (rows ∙ ap (λ g. without_objects g all) is)
          ∙ list_all-from_In (λ r. is_stored_object (without_objects (swept_objects segments all moment) all) r.segment.object) segments
          (λ row here. stored_left segments all moment row rise here
          (list_all-In (λ (r : SegmentRow). is_stored_object all r.segment.object) segments was.named row here));
      held = subst (λ l. AreHeld (object_states l) new after) (sym rows) held;
      rising = was.rising;
    }

pub swept_seen : (segments : List SegmentRow) (kept next : List Kept) (area new : Area) (gone : List ObjectRow) (moment : ℕ)
    → gone ≡ swept_objects segments (objects_in kept) moment → objects_in next ≡ without_objects gone (objects_in kept) → new.blocks ≡ area.blocks
    → media_seen segments next new ≡ swept moment (media_seen segments kept area)
swept_seen segments kept next area new gone moment is rows same =
    ap₂ (λ n l. record { blocks = n; segments = segments; objects = l }) same (rows ∙ ap (λ g. without_objects g (objects_in kept)) is)
