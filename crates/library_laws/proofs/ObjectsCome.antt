-- Where each object of the next library comes from: it was there, or the change makes or stores it.
use Rattle.std.proofs.Common.{◌≡◌, inl, inr, ℕ, ◌+◌, Bool, true, false, cond, List, [], ◌∷◌, Option, Some, None, refl, sym, ap, subst, ◌∙◌}
use Rattle.std.specs.Prelude.{◌==◌, bytes_eq, not}
use Rattle.std.specs.List.{list_any}
use Rattle.std.proofs.lemmas.Bool.{false≢true}
use Rattle.media_rows.specs.declared.change.Change.{Change}
use Rattle.media_rows.specs.declared.change.Change.TheVariants as changes
use Rattle.media_rows.specs.declared.object.Digest.{Digest}
use Rattle.media_rows.specs.declared.object.ObjectRow.{ObjectRow}
use Rattle.media_rows.specs.declared.object.ObjectState.TheVariants.{Allocated, Stored}
use Rattle.media_rows.specs.declared.request.DeleteRow.{DeleteRow}
use Rattle.media_rows.specs.declared.segment.SegmentRow.{SegmentRow}
use Rattle.media_rows.specs.Changes.{after, remove_segments, after_step_of}
use Rattle.media_rows.specs.Library.{Library}
use Rattle.media_rows.specs.Objects.{is_stored, allocated_rows, stored_row, idled_row, idled, swept_objects}
use Rattle.media_rows.specs.Requests.{first_unfinished, removed_by_step}
use Rattle.media_rows.specs.Segments.{segments_of, covered, without_segments}
use Rattle.library_laws.specs.ChangeLaws.{WasStored, before, now, StoredStay}
use Rattle.library_laws.proofs.FirstBytes.{step_objects, touched_objects}
use Rattle.library_laws.proofs.KeptLemmas.{same_text}
use Rattle.library_laws.proofs.ListLemmas.{In, In-append, In-filter, In-map, In-from_Contains, Contains-from_In}
use Rattle.library_laws.proofs.ObjectsKept.{idled_id, idled_serial, idled_state}

-- an object of the next library
pub data Came (library : Library) (change : Change) (row : ObjectRow) : Type 0 where
  kept : (old : ObjectRow) → In old library.objects → row.serial ≡ old.serial → row.id ≡ old.id → row.state ≡ old.state → Came library change row
  made : (moment flow : ℕ) (ids : List (List ℕ)) → change ≡ changes.Allocate moment flow ids → In row.id ids → row.state ≡ Allocated → Came library change row
  stored : (moment start size : ℕ) (digest : Option Digest) → change ≡ changes.Store moment row.id start size digest → row.state ≡ Stored start size digest → Came library change row

by_idled : (library : Library) (change : Change) (was left : List SegmentRow) (moment : ℕ) (row : ObjectRow) → In row (idled was left moment library.objects)
    → Came library change row
by_idled library change was left moment row here =
    let old = In-map (idled_row was left moment) library.objects row here in
    kept old.0 old.1 (ap (λ (r : ObjectRow). r.serial) old.2 ∙ idled_serial was left moment old.0)
    (ap (λ (r : ObjectRow). r.id) old.2 ∙ idled_id was left moment old.0)
    (ap (λ (r : ObjectRow). r.state) old.2 ∙ idled_state was left moment old.0)

by_same : (library : Library) (change : Change) (row : ObjectRow) → In row library.objects → Came library change row
by_same library change row here = kept row here refl refl refl

in_allocated : (serial moment : ℕ) (ids : List (List ℕ)) (row : ObjectRow) → In row (allocated_rows serial moment ids) → In row.id ids × (row.state ≡ Allocated)
in_allocated serial moment [] row here = absurd here
in_allocated serial moment (id ∷ later) row (inl same) = (inl (ap (λ (r : ObjectRow). r.id) same), ap (λ (r : ObjectRow). r.state) same)
in_allocated serial moment (id ∷ later) row (inr there) = let found = in_allocated (serial + 1) moment later row there in (inr found.0, found.1)

by_stored : (library : Library) (moment : ℕ) (object : List ℕ) (start size : ℕ) (digest : Option Digest) (row old : ObjectRow) (b : Bool) → bytes_eq old.id object ≡ b
    → In old library.objects
    → row ≡ cond b (stored_row start size digest moment old) old → Came library (changes.Store moment object start size digest) row
by_stored library moment object start size digest row old true is here e =
    stored moment start size digest (ap (λ o. changes.Store moment o start size digest) (sym (ap (λ (r : ObjectRow). r.id) e ∙ same_text old.id object is)))
    (ap (λ (r : ObjectRow). r.state) e)
by_stored library moment object start size digest row old false is here e =
    kept old here (ap (λ (r : ObjectRow). r.serial) e) (ap (λ (r : ObjectRow). r.id) e) (ap (λ (r : ObjectRow). r.state) e)

by_step : (library : Library) (change : Change) (moment : ℕ) (o : Option DeleteRow) (row : ObjectRow) → In row (after_step_of o moment library).objects
    → Came library change row
by_step library change moment None row here = by_same library change row here
by_step library change moment (Some request) row here =
    by_idled library change library.segments (without_segments (removed_by_step library.segments request) library.segments) moment row
    (subst (In row) (step_objects library request moment) here)

pub came : (library : Library) (change : Change) (row : ObjectRow) → In row (after change library).objects → Came library change row
came library (changes.PutFlow moment flow) row here = by_same library _ row here
came library (changes.SetFlow moment flow part) row here = by_same library _ row here
came library (changes.SetSource moment source part) row here = by_same library _ row here
came library (changes.DropFlow moment flow) row here =
    by_idled library _ library.segments (without_segments (segments_of flow library.segments) library.segments) moment row here
came library (changes.Allocate moment flow ids) row here =
    elim (In-append library.objects (allocated_rows library.next_serial moment ids) row here) [
      | inl old ↦ by_same library _ row old
      | inr new ↦ let found = in_allocated library.next_serial moment ids row new in made moment flow ids refl found.0 found.1
    ]
came library (changes.Store moment object start size digest) row here =
    let old = In-map (λ row. cond (bytes_eq row.id object) (stored_row start size digest moment row) row) library.objects row here in
    by_stored library moment object start size digest row old.0 (bytes_eq old.0.id object) refl old.1 old.2
came library (changes.AddSegments moment flow posts) row here = by_same library _ row here
came library (changes.CutSegments moment flow range) row here =
    let gone : List SegmentRow = covered library.segments flow range in
    by_idled library _ library.segments (without_segments gone library.segments) moment row
    (subst (In row) (touched_objects (remove_segments gone moment library) flow moment gone) here)
came library (changes.AskDelete moment flow range delete_flow) row here = by_same library _ row here
came library (changes.DeleteStep moment) row here = by_step library _ moment (first_unfinished library.requests) row here
came library (changes.SweepStep moment) row here =
    by_same library _ row (In-filter (λ row. not (list_any (λ other. other.serial == row.serial) (swept_objects library.segments library.objects moment)))
    library.objects row here).0
came library (changes.PutHook moment hook) row here = by_same library _ row here
came library (changes.DropHook moment url) row here = by_same library _ row here
came library (changes.Delivered moment event) row here = by_same library _ row here

was_stored : (library : Library) (change : Change) (row : ObjectRow) → is_stored row.state ≡ true → Came library change row → WasStored library change row
was_stored library change row st (kept old here serial id state) = before old (Contains-from_In library.objects old here) serial id state
was_stored library change row st (made moment flow ids is among state) = absurd (false≢true (sym (ap is_stored state) ∙ st))
was_stored library change row st (stored moment start size digest is state) = now moment start size digest is state

pub stored_stay : StoredStay
stored_stay library change row here st = was_stored library change row st (came library change row (In-from_Contains (after change library).objects row here))
