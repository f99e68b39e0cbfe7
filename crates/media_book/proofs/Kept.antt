-- What is kept of the media holds after each change of one object or of one segment.
use Rattle.std.proofs.Common.{◌≡◌, ℕ, ◌+◌, nat_le, nat_lt, Bool, true, false, not, ◌||◌, List, [], ◌∷◌, ◌++◌, Option, Some, None, Err, Contains, bytes_eq, cond, option_map, refl, sym, ap, ap₂, subst, ◌∙◌, arith, append-nil}
use Rattle.std.specs.Prelude.{◌==◌, is_some}
use Rattle.std.specs.List.{list_all}
use Rattle.std.proofs.lemmas.Bool.{and_from, and_parts}
use Rattle.std.proofs.lemmas.List.Folds.{list_all-append, list_all-map}
use Rattle.media_rows.specs.declared.object.Digest.{Digest}
use Rattle.media_rows.specs.declared.object.Extent.{Extent}
use Rattle.media_rows.specs.declared.object.ObjectRow.{ObjectRow}
use Rattle.media_rows.specs.declared.object.ObjectState.{ObjectState}
use Rattle.media_rows.specs.declared.object.ObjectState.TheVariants.{Allocated, Stored}
use Rattle.media_rows.specs.declared.refusal.BookFault.{BookFault}
use Rattle.media_rows.specs.declared.refusal.BookFault.TheVariants as books
use Rattle.media_rows.specs.declared.refusal.Refusal.{Refusal}
use Rattle.media_rows.specs.declared.segment.SegmentRow.{SegmentRow}
use Rattle.media_rows.specs.Answer.{keep_refusal}
use Rattle.media_rows.specs.Good.{are_object_ids_distinct, are_references_good, is_extent_good, rises_by}
use Rattle.media_rows.specs.Objects.{allocated_rows, blocks_of, idled, is_clear_of, is_free, is_stored_object, object_of, stored_row, with_object}
use Rattle.media_rows.specs.Refusals.{IsChange, when}
use Rattle.media_rows.specs.Segments.{without_segments}
use Rattle.object_blobs.specs.Holes.{Area, IsAllFree, IsPlaceTaken, is_free_place}
use Rattle.object_refs.specs.declared.kept.Kept.{Kept}
use Rattle.object_refs.specs.References.{changed_at, flows_in, objects_in, referred, references_in, refers, released, stored_at, with_new}
use Rattle.library_laws.proofs.ListLemmas.{In-from_Contains, list_all-In, list_all-filter, rises-filter}
use Rattle.reference_laws.specs.Laws.{ObjectsChange, ObjectsCome, ReferencesCome, ReferencesGo}
use Rattle.reference_laws.specs.Ties.{AreTied}
use Rattle.media_book.specs.Media.{are_segments_below, can_take, no_media, with_allocated, with_posts, with_stored, without_rows}
use Rattle.media_book.specs.Within.Ties.{AreHeld, IsMedia, media_seen, object_states}
use Rattle.media_book.proofs.Held.{may_take, none_held, with_empty, with_extent, without_empty}
use Rattle.media_book.proofs.ObjectRows.{filled, good_still, new_objects, states_append, stored_after, stored_behind, stored_objects, unkept_unnamed}
use Rattle.media_book.proofs.Posts.{rises_last}
use Rattle.media_book.proofs.Removals.{idled_states, row_refers, serial_of}
use Rattle.media_book.proofs.Serials.{amid, left_out}
use Rattle.library_laws.proofs.ObjectsKept.{stored_object_idled}
use Rattle.object_refs.proofs.Gathered.{objects_same}

-- ---- a test that refuses

pub unless : (t : Bool) (why : Refusal) → when t why ≡ None → t ≡ false
unless true why e = absurd (grind (arith, e))
unless false why e = refl

untrue : (t : Bool) → not t ≡ false → t ≡ true
untrue true e = refl
untrue false e = sym e

-- a refusal that is the same is handed on
pub handed : {A B : Type 0} (refusal other : Option Refusal) (next : A) (more : B) (fault : BookFault) → other ≡ refusal
    → IsChange refusal next (Err fault) → IsChange other more (Err fault)
handed refusal other next more (books.Refused why) e is = e ∙ is
handed refusal other next more books.Memory e is = tt

-- ---- nothing

pub nothing_is : (blocks : ℕ) (area : Area) → IsAllFree blocks area → IsMedia [] [] area 0
nothing_is blocks area free = record { tied = tt; named = refl; held = none_held blocks area free; rising = refl }

pub nothing_seen : (blocks : ℕ) (area : Area) → IsAllFree blocks area → media_seen [] [] area ≡ no_media blocks
nothing_seen blocks area free = ap (λ n. record { blocks = n; segments = []; objects = [] }) free.blocks

-- ---- a new object

pub new_is : ObjectsCome → (segments : List SegmentRow) (kept : List Kept) (area : Area) (bytes : ℕ) (id : List ℕ) (serial moment : ℕ)
    → IsMedia segments kept area bytes → is_some (object_of id (objects_in kept)) ≡ false → IsMedia segments (with_new id serial moment kept) area bytes
new_is comes segments kept area bytes id serial moment was none =
    let objects = new_objects id serial moment kept in
    let states : object_states (objects_in (with_new id serial moment kept)) ≡ object_states (objects_in kept) ++ Allocated ∷ [] =
    ap object_states objects ∙ states_append (objects_in kept) (allocated_rows serial moment (id ∷ [])) in
    record {
      tied = comes segments id serial moment kept was.tied (unkept_unnamed (objects_in kept) segments id was.named none);
      named = ap (λ l. are_references_good l segments) objects
          ∙ good_still (objects_in kept) (objects_in kept ++ allocated_rows serial moment (id ∷ []))
          (stored_behind (allocated_rows serial moment (id ∷ [])) (objects_in kept)) segments was.named;
      held = subst (λ l. AreHeld l area bytes) (sym states)
          (with_empty (object_states (objects_in kept)) [] area bytes
          (subst (λ l. AreHeld l area bytes) (sym (append-nil (object_states (objects_in kept)))) was.held));
      rising = was.rising;
    }

pub new_seen : (segments : List SegmentRow) (kept : List Kept) (area : Area) (id : List ℕ) (serial moment : ℕ)
    → media_seen segments (with_new id serial moment kept) area ≡ with_allocated serial moment (id ∷ []) (media_seen segments kept area)
new_seen segments kept area id serial moment =
    ap (λ l. record { blocks = area.blocks; segments = segments; objects = l }) (new_objects id serial moment kept)

-- ---- an object that is stored

-- what a place that may be taken gives
pub record IsRoom (objects : List ObjectRow) (area : Area) (extent : Extent) : Type 0 where
  pub fits : nat_le (extent.start + blocks_of extent.length) area.blocks ≡ true
  pub clear : list_all (is_clear_of extent.start (blocks_of extent.length)) (object_states objects) ≡ true
  pub good : is_extent_good area.blocks (Stored extent.start extent.length None) ≡ true

pub room_of : (segments : List SegmentRow) (kept : List Kept) (area : Area) (extent : Extent) → can_take (media_seen segments kept area) extent ≡ true
    → IsRoom (objects_in kept) area extent
room_of segments kept area extent can =
    let start = extent.start in
    let count = blocks_of extent.length in
    let both = and_parts (is_free (objects_in kept) area.blocks count start) (nat_lt 0 extent.length || (start == 0)) can in
    let free = and_parts (nat_le (start + count) area.blocks) (list_all (λ row. is_clear_of start count row.state) (objects_in kept)) both.0 in
    record {
      fits = free.0;
      clear = list_all-map (is_clear_of start count) (λ (row : ObjectRow). row.state) (objects_in kept) ∙ free.1;
      good = and_from (nat_le (start + count) area.blocks) (nat_lt 0 extent.length || (start == 0)) free.0 both.1;
    }

pub room_free : (kept : List Kept) (area : Area) (bytes : ℕ) (extent : Extent) → AreHeld (object_states (objects_in kept)) area bytes
    → IsRoom (objects_in kept) area extent → is_free_place area.holes (blocks_of extent.length) extent.start ≡ true
room_free kept area bytes extent held room =
    may_take (object_states (objects_in kept)) area bytes extent.start (blocks_of extent.length) held room.fits room.clear

clear_others : (p : ObjectState → Bool) (f : List ObjectState) (b : List ObjectState) → list_all p (f ++ Allocated ∷ b) ≡ true → list_all p (f ++ b) ≡ true
clear_others p [] b e = (and_parts (p Allocated) (list_all p b) e).1
clear_others p (s ∷ f) b e =
    let parts = and_parts (p s) (list_all p (f ++ Allocated ∷ b)) e in
    and_from (p s) (list_all p (f ++ b)) parts.0 (clear_others p f b parts.1)

pub stored_is : ObjectsChange → (segments : List SegmentRow) (kept : List Kept) (area new : Area) (bytes : ℕ) (id : List ℕ) (extent : Extent) (digest : Option Digest) (moment : ℕ)
    → IsMedia segments kept area bytes → are_object_ids_distinct (objects_in kept) ≡ true → keep_refusal (object_of id (objects_in kept)) ≡ None
    → IsRoom (objects_in kept) area extent → IsPlaceTaken extent.start (blocks_of extent.length) area new
    → IsMedia segments (changed_at id (stored_at extent digest moment) kept) new (bytes + extent.length)
stored_is changes segments kept area new bytes id extent digest moment was distinct free room taken =
    let objects = stored_objects id extent digest moment kept in
    let fill = filled id extent.start extent.length digest moment (objects_in kept) distinct free in
    let bare = without_empty fill.front fill.back area bytes (subst (λ l. AreHeld l area bytes) fill.was was.held) in
    let clear = clear_others (is_clear_of extent.start (blocks_of extent.length)) fill.front fill.back
    (subst (λ l. list_all (is_clear_of extent.start (blocks_of extent.length)) l ≡ true) fill.was room.clear) in
    record {
      tied = changes segments id (stored_at extent digest moment) kept (λ k. refl) (λ k. refl) was.tied;
      named = ap (λ l. are_references_good l segments) objects
          ∙ good_still (objects_in kept) (with_object id (stored_row extent.start extent.length digest moment) (objects_in kept))
          (stored_after id extent.start extent.length digest moment (objects_in kept)) segments was.named;
      held = subst (λ l. AreHeld l new (bytes + extent.length)) (sym (ap object_states objects ∙ fill.is))
          (with_extent fill.front fill.back extent.start extent.length digest area new bytes bare clear room.good taken);
      rising = was.rising;
    }

pub stored_seen : (segments : List SegmentRow) (kept : List Kept) (area new : Area) (id : List ℕ) (extent : Extent) (digest : Option Digest) (moment : ℕ)
    → IsPlaceTaken extent.start (blocks_of extent.length) area new
    → media_seen segments (changed_at id (stored_at extent digest moment) kept) new ≡ with_stored id extent digest moment (media_seen segments kept area)
stored_seen segments kept area new id extent digest moment taken =
    ap₂ (λ n l. record { blocks = n; segments = segments; objects = l }) taken.blocks (stored_objects id extent digest moment kept)

-- it keeps its serial
pub stored_serial : (id : List ℕ) (extent : Extent) (digest : Option Digest) (moment : ℕ) (kept : List Kept)
    → option_map (λ row. row.serial) (object_of id (objects_in (changed_at id (stored_at extent digest moment) kept)))
    ≡ option_map (λ row. row.serial) (object_of id (objects_in kept))
stored_serial id extent digest moment [] = refl
stored_serial id extent digest moment (k ∷ kept) = by (bytes_eq k.row.id id) refl (stored_serial id extent digest moment kept)
  where
    later : Option ObjectRow
    later = object_of id (objects_in (changed_at id (stored_at extent digest moment) kept))

    by : (t : Bool) → bytes_eq k.row.id id ≡ t
        → option_map (λ (row : ObjectRow). row.serial) later ≡ option_map (λ row. row.serial) (object_of id (objects_in kept))
        → option_map (λ row. row.serial)
        (object_of id ((cond t (stored_at extent digest moment k) k).row ∷ objects_in (changed_at id (stored_at extent digest moment) kept)))
        ≡ option_map (λ row. row.serial) (cond t (Some k.row) (object_of id (objects_in kept)))
    by true e ih = ap (λ b. option_map (λ (row : ObjectRow). row.serial) (cond b (Some (stored_at extent digest moment k).row) later)) e
    by false e ih = ap (λ b. option_map (λ (row : ObjectRow). row.serial) (cond b (Some k.row) later)) e ∙ ih

-- ---- a segment that comes

pub added_is : ReferencesCome → (segments : List SegmentRow) (kept : List Kept) (area : Area) (bytes : ℕ) (row : SegmentRow) (why : Refusal)
    → IsMedia segments kept area bytes → when (not (is_stored_object (objects_in kept) row.segment.object)) why ≡ None
    → are_segments_below row.serial segments ≡ true
    → IsMedia (segments ++ row ∷ []) (changed_at row.segment.object (referred row.flow) kept) area bytes
added_is comes segments kept area bytes row why was free below =
    let objects = objects_same row.segment.object row.flow kept in
    let stored =
    untrue (is_stored_object (objects_in kept) row.segment.object) (unless (not (is_stored_object (objects_in kept) row.segment.object)) why free) in
    record {
      tied = comes segments [] row kept (subst (λ l. AreTied l kept) (sym (append-nil segments)) was.tied);
      named = ap (λ l. are_references_good l (segments ++ row ∷ [])) objects
          ∙ list_all-append (λ r. is_stored_object (objects_in kept) r.segment.object) segments (row ∷ [])
          ∙ and_from (are_references_good (objects_in kept) segments) (are_references_good (objects_in kept) (row ∷ [])) was.named
          (and_from (is_stored_object (objects_in kept) row.segment.object) true stored refl);
      held = subst (λ l. AreHeld (object_states l) area bytes) (sym objects) was.held;
      rising = rises_last segments row was.rising below;
    }

pub added_seen : (segments : List SegmentRow) (kept : List Kept) (area : Area) (row : SegmentRow)
    → media_seen (segments ++ row ∷ []) (changed_at row.segment.object (referred row.flow) kept) area
    ≡ with_posts row.flow row.serial (row.segment ∷ []) (media_seen segments kept area)
added_seen segments kept area row =
    ap (λ l. record { blocks = area.blocks; segments = segments ++ row ∷ []; objects = l }) (objects_same row.segment.object row.flow kept)

-- ---- a segment that goes

pub row_is_referred : (segments : List SegmentRow) (kept : List Kept) (area : Area) (bytes : ℕ) (row : SegmentRow) → IsMedia segments kept area bytes
    → Contains segments row → refers (references_in kept) row.segment.object row.flow ≡ true
row_is_referred segments kept area bytes row was there =
    let here = In-from_Contains segments row there in
    row_refers segments kept row was.tied here (list_all-In (λ r. is_stored_object (objects_in kept) r.segment.object) segments was.named row here)

-- the media once a segment went
pub record IsLess (segments : List SegmentRow) (kept next : List Kept) (area : Area) (bytes : ℕ) (row : SegmentRow) (moment : ℕ) : Type 0 where
  pub media : IsMedia (without_segments (row ∷ []) segments) next area bytes
  pub seen : media_seen (without_segments (row ∷ []) segments) next area ≡ without_rows (row ∷ []) moment (media_seen segments kept area)

pub less_is : ReferencesGo → (segments : List SegmentRow) (kept next : List Kept) (area : Area) (bytes : ℕ) (row : SegmentRow) (moment : ℕ)
    → IsMedia segments kept area bytes → Contains segments row
    → objects_in next ≡ idled (references_in kept) (references_in next) moment (objects_in kept)
    → flows_in next ≡ flows_in (changed_at row.segment.object (released row.flow) kept)
    → IsLess segments kept next area bytes row moment
less_is goes segments kept next area bytes row moment was there objects flows =
    let at = amid row segments (In-from_Contains segments row there) in
    let left : without_segments (row ∷ []) segments ≡ at.front ++ at.back =
    ap (without_segments (row ∷ [])) at.is
    ∙ left_out serial_of at.front row at.back (subst (λ l. rises_by (λ (r : SegmentRow). r.serial) l ≡ true) at.is was.rising) in
    let law = goes at.front at.back row moment kept next (subst (λ l. AreTied l kept) at.is was.tied) objects flows in
    let rows : objects_in next ≡ idled segments (without_segments (row ∷ []) segments) moment (objects_in kept) =
    law.objects ∙ ap₂ (λ b a. idled b a moment (objects_in kept)) (sym at.is) (sym left) in
    record {
      media = record {
        tied = subst (λ l. AreTied l next) (sym left) law.tied;
        named = ap (λ l. are_references_good l (without_segments (row ∷ []) segments)) rows
            ∙ good_still (objects_in kept) (idled segments (without_segments (row ∷ []) segments) moment (objects_in kept))
            (λ id e. stored_object_idled segments (without_segments (row ∷ []) segments) moment (objects_in kept) id ∙ e)
            (without_segments (row ∷ []) segments)
            (list_all-filter (λ r. is_stored_object (objects_in kept) r.segment.object) _ segments was.named);
        held = subst (λ l. AreHeld l area bytes)
            (sym (ap object_states rows ∙ idled_states segments (without_segments (row ∷ []) segments) moment (objects_in kept))) was.held;
        rising = rises-filter (λ (a : SegmentRow) b. nat_lt a.serial b.serial) _ segments was.rising;
      };
      seen = ap (λ l. record { blocks = area.blocks; segments = without_segments (row ∷ []) segments; objects = l }) rows;
    }
