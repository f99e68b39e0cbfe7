-- An object that is stored keeps its id and its place while it is kept.
use Rattle.std.proofs.Common.{◌≡◌, inl, inr, ℕ, Bool, true, false, not, cond, List, ◌++◌, map, filter, length, Option, Some, None, refl, sym, ap, subst, ◌∙◌, arith}
use Rattle.std.specs.Prelude.{◌==◌, bytes_eq, is_none}
use Rattle.std.specs.List.{list_any}
use Rattle.std.proofs.lemmas.Bool.{and_parts, cond_both, not-true, false≢true}
use Rattle.media_rows.specs.declared.change.Change.{Change}
use Rattle.media_rows.specs.declared.change.Change.TheVariants as changes
use Rattle.media_rows.specs.declared.object.Digest.{Digest}
use Rattle.media_rows.specs.declared.object.ObjectRow.{ObjectRow}
use Rattle.media_rows.specs.declared.object.ObjectState.{ObjectState}
use Rattle.media_rows.specs.declared.object.ObjectState.TheVariants.{Allocated, Stored}
use Rattle.media_rows.specs.declared.request.DeleteRow.{DeleteRow}
use Rattle.media_rows.specs.declared.segment.SegmentRow.{SegmentRow}
use Rattle.media_rows.specs.Answer.{keep_refusal, keep_state}
use Rattle.media_rows.specs.Apply.{is_allowed}
use Rattle.media_rows.specs.Catalog.{after_touch}
use Rattle.media_rows.specs.Changes.{after, after_step_of, touch_flow, with_step, is_flow_gone, after_request_step}
use Rattle.media_rows.specs.Good.{Good}
use Rattle.media_rows.specs.Library.{Library}
use Rattle.media_rows.specs.Lists.{are_distinct_texts}
use Rattle.media_rows.specs.Objects.{object_of, is_stored, is_free, blocks_of, allocated_rows, stored_row, idled_row, idled, swept_objects}
use Rattle.media_rows.specs.Requests.{first_unfinished, removed_by_step}
use Rattle.media_rows.specs.Segments.{segments_of, covered, without_segments}
use Rattle.library_laws.specs.Laws.{FirstBytesStay}
use Rattle.library_laws.proofs.ListLemmas.{In, In-append, In-filter, In-map, map-In, find-In, In-from_Contains, rises-In}
use Rattle.library_laws.proofs.KeptLemmas.{same_by_key, same_text, text_same, rises-keys, counted-within}
use Rattle.library_laws.proofs.ObjectsKept.{idled_id, idled_serial, idled_state}
use Rattle.library_laws.proofs.NewObjectsKept.{serials-allocated}
use Rattle.library_laws.proofs.OutboxKept.{Names-from, object_below}

-- the same object: with its id and its place
abbrev Same : ObjectRow → ObjectRow → Type 0
Same old new = (new.id ≡ old.id) × (new.state ≡ old.state)

-- what objects a change leaves: each one of before with its id and place, or a new one
record Stay (library : Library) (objects : List ObjectRow) : Type 0 where
  stay : (old new : ObjectRow) → In old library.objects → In new objects → new.serial ≡ old.serial → is_stored old.state ≡ true → Same old new

same_objects : (library : Library) → Good library → Stay library library.objects
same_objects library good = record {
  stay = λ old new here there same st.
      let e = same_by_key (λ (r : ObjectRow). r.serial) library.objects (Names-from library good.names).objects_rise new old there here same in
      (ap (λ (r : ObjectRow). r.id) e, ap (λ (r : ObjectRow). r.state) e);
}

fewer_objects : (library : Library) → Good library → (p : ObjectRow → Bool) → Stay library (filter p library.objects)
fewer_objects library good p = record {
  stay = λ old new here there same st. (same_objects library good).stay old new here
      (In-filter p library.objects new there).0 same st;
}

idled_objects : (library : Library) → Good library → (before left : List SegmentRow) (moment : ℕ) → Stay library (idled before left moment library.objects)
idled_objects library good before left moment = record {
  stay = λ old new here there same st.
      let row = In-map (idled_row before left moment) library.objects new there in
      let serial : row.0.serial ≡ old.serial = sym (idled_serial before left moment row.0) ∙ sym (ap (λ (r : ObjectRow). r.serial) row.2) ∙ same in
      let kept = (same_objects library good).stay old row.0 here row.1 serial st in (
        ap (λ (r : ObjectRow). r.id) row.2 ∙ idled_id before left moment row.0 ∙ kept.0,
        ap (λ (r : ObjectRow). r.state) row.2
            ∙ idled_state before left moment row.0 ∙ kept.1,
      );
}

more_objects : (library : Library) → Good library → (moment : ℕ) (ids : List (List ℕ))
    → Stay library (library.objects ++ allocated_rows library.next_serial moment ids)
more_objects library good moment ids = record {
  stay = λ old new here there same st.
      elim (In-append library.objects (allocated_rows library.next_serial moment ids) new there) [
        | inl kept ↦ (same_objects library good).stay old new here kept same st
        | inr fresh ↦
            let low = object_below library (Names-from library good.names) old here in
            let high = counted-within library.next_serial (length ids) new.serial
            (subst (In new.serial) (serials-allocated library.next_serial moment ids)
            (map-In (λ (r : ObjectRow). r.serial) (allocated_rows library.next_serial moment ids) new fresh)) in
            absurd (omega arith)
      ];
}

-- two objects of one id are one
pub same_id : (objects : List ObjectRow) → are_distinct_texts (map (λ row. row.id) objects) ≡ true → (a b : ObjectRow) → In a objects → In b objects → a.id
    ≡ b.id → a ≡ b
same_id objects distinct a b here there same =
    elim (rises-In (λ x y. not (bytes_eq x.id y.id)) objects (sym (rises-keys (λ x y. not (bytes_eq x y)) (λ (r : ObjectRow). r.id) objects) ∙ distinct) a b
    here there) [
      | inl e ↦ e
      | inr (inl apart) ↦ absurd (false≢true (sym (not-true (bytes_eq a.id b.id) apart) ∙ ap (bytes_eq a.id) (sym same) ∙ text_same a.id))
      | inr (inr apart) ↦ absurd (false≢true (sym (not-true (bytes_eq b.id a.id) apart) ∙ ap (bytes_eq b.id) same ∙ text_same b.id))
    ]

allocated_state : (state : ObjectState) → is_none (keep_state state) ≡ true → is_stored state ≡ false
allocated_state Allocated e = refl
allocated_state (Stored start size digest) e = absurd (false≢true e)

-- an object that may be stored is allocated
pub allocated_one : (o : Option ObjectRow) → is_none (keep_refusal o) ≡ true → (row : ObjectRow) × (o ≡ Some row) × (is_stored row.state ≡ false)
allocated_one None e = absurd (false≢true e)
allocated_one (Some row) e = (row, refl, allocated_state row.state e)

-- a row that is stored by this change wasn't stored before
stored_step : (b : Bool) (row : ObjectRow) (start size : ℕ) (digest : Option Digest) (moment : ℕ) (old new : ObjectRow) → new ≡ cond b (stored_row start size digest moment row) row
    → (row.serial ≡ old.serial → row ≡ old) → new.serial ≡ old.serial
    → (b ≡ true → is_stored row.state ≡ false) → is_stored old.state ≡ true → Same old new
stored_step true row start size digest moment old new e one same unstored st =
    let serial : row.serial ≡ old.serial = sym (ap (λ (r : ObjectRow). r.serial) e) ∙ same in
    absurd (false≢true (sym (unstored refl) ∙ ap (λ (r : ObjectRow). is_stored r.state) (one serial) ∙ st))
stored_step false row start size digest moment old new e one same unstored st =
    let serial : row.serial ≡ old.serial = sym (ap (λ (r : ObjectRow). r.serial) e) ∙ same in (
      ap (λ (r : ObjectRow). r.id) e ∙ ap (λ (r : ObjectRow). r.id) (one serial),
      ap (λ (r : ObjectRow). r.state) e
          ∙ ap (λ (r : ObjectRow). r.state) (one serial),
    )

stored_objects : (library : Library) → Good library → (id : List ℕ) (start size : ℕ) (digest : Option Digest) (moment : ℕ) → is_none (keep_refusal (object_of id library.objects)) ≡ true
    → Stay library (map (λ row. cond (bytes_eq row.id id) (stored_row start size digest moment row) row) library.objects)
stored_objects library good id start size digest moment allowed = record {
  stay = λ old new here there same st.
      let names = Names-from library good.names in
      let row = In-map (λ row. cond (bytes_eq row.id id) (stored_row start size digest moment row) row) library.objects new there in
      let one = allocated_one (object_of id library.objects) allowed in
      let at = find-In (λ r. bytes_eq r.id id) library.objects one.0 one.1 in
      stored_step (bytes_eq row.0.id id) row.0 start size digest moment old new row.2
      (λ serial. same_by_key (λ (r : ObjectRow). r.serial) library.objects names.objects_rise row.0 old row.1 here serial) same
      (λ is. let e = same_id library.objects names.objects row.0 one.0 row.1 at.0 (same_text row.0.id id is ∙ sym (same_text one.0.id id at.1)) in ap
      (λ (r : ObjectRow). is_stored r.state) e ∙ one.2) st;
}

-- ---- each change

end_objects : (gone : Bool) (one other : Library) (objects : List ObjectRow) → one.objects ≡ objects → other.objects ≡ objects → (cond gone one other).objects
    ≡ objects
end_objects true one other objects e k = e
end_objects false one other objects e k = k

pub step_objects : (library : Library) (request : DeleteRow) (moment : ℕ) → (after_request_step moment request library).objects
    ≡ idled library.segments (without_segments (removed_by_step library.segments request) library.segments) moment library.objects
step_objects library request moment =
    let removed : List SegmentRow = removed_by_step library.segments request in
    let before : Library = touch_flow request.flow removed moment (with_step request moment library) in
    let touched : idled before.segments (without_segments removed before.segments) moment before.objects
    ≡ idled library.segments (without_segments removed library.segments) moment library.objects =
    cond_both (length removed == 0) (with_step request moment library)
    (record (with_step request moment library) { catalog = after_touch request.flow moment library.catalog })
    (λ (l : Library). idled l.segments (without_segments removed l.segments) moment l.objects
    ≡ idled library.segments (without_segments removed library.segments) moment library.objects) (λ e. refl) (λ e. refl) in
    end_objects (is_flow_gone request library) _ _ _ touched touched

stay_by_step : (library : Library) → Good library → (moment : ℕ) (o : Option DeleteRow) → Stay library (after_step_of o moment library).objects
stay_by_step library good moment None = same_objects library good
stay_by_step library good moment (Some request) =
    subst (Stay library) (sym (step_objects library request moment))
    (idled_objects library good library.segments (without_segments (removed_by_step library.segments request) library.segments) moment)

pub touched_objects : (library : Library) (flow moment : ℕ) (rows : List SegmentRow) → (touch_flow flow rows moment library).objects ≡ library.objects
touched_objects library flow moment rows =
    cond_both (length rows == 0) library (record library { catalog = after_touch flow moment library.catalog }) (λ (l : Library). l.objects ≡ library.objects)
    (λ e. refl) (λ e. refl)

stay : (library : Library) (change : Change) → Good library → is_allowed library change ≡ true → Stay library (after change library).objects
stay library (changes.PutFlow moment flow) good allowed = same_objects library good
stay library (changes.SetFlow moment flow part) good allowed = same_objects library good
stay library (changes.SetSource moment source part) good allowed = same_objects library good
stay library (changes.DropFlow moment flow) good allowed = idled_objects library good library.segments
    (without_segments (segments_of flow library.segments) library.segments) moment
stay library (changes.Allocate moment flow ids) good allowed = more_objects library good moment ids
stay library (changes.Store moment object start size digest) good allowed =
    stored_objects library good object start size digest moment (and_parts (is_none (keep_refusal (object_of object library.objects)))
    (is_free library.objects library.blocks (blocks_of size) start) allowed).0
stay library (changes.AddSegments moment flow posts) good allowed = same_objects library good
stay library (changes.CutSegments moment flow range) good allowed =
    let gone : List SegmentRow = covered library.segments flow range in
    subst (Stay library) (sym (touched_objects (record library
    { segments = without_segments gone library.segments; objects = idled library.segments (without_segments gone library.segments) moment library.objects })
    flow moment gone))
    (idled_objects library good library.segments (without_segments gone library.segments) moment)
stay library (changes.AskDelete moment flow range delete_flow) good allowed = same_objects library good
stay library (changes.DeleteStep moment) good allowed = stay_by_step library good moment (first_unfinished library.requests)
stay library (changes.SweepStep moment) good allowed = fewer_objects library good
    (λ row. not (list_any (λ other. other.serial == row.serial) (swept_objects library.segments library.objects moment)))
stay library (changes.PutHook moment hook) good allowed = same_objects library good
stay library (changes.DropHook moment url) good allowed = same_objects library good
stay library (changes.Delivered moment event) good allowed = same_objects library good

pub first_bytes_stay : FirstBytesStay
first_bytes_stay library change good allowed old new here there same stored =
    (stay library change good allowed).stay old new (In-from_Contains library.objects old here) (In-from_Contains (after change library).objects new there) same
    stored
