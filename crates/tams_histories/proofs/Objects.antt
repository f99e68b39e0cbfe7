-- Where each object after a change comes from, and that serials rise.
use Rattle.std.proofs.Common.{◌≡◌, ◌≤◌, ◌<◌, ◌+◌, inl, inr, ℕ, Bool, true, false, cond, List, [], ◌∷◌, length, Option, Some, None, refl, sym, ap, subst, ◌∙◌, arith}
use Rattle.std.specs.Prelude.{◌==◌, bytes_eq, if◌then◌else◌}
use Rattle.media_rows.specs.declared.change.Change.{Change}
use Rattle.media_rows.specs.declared.change.Change.TheVariants as changes
use Rattle.media_rows.specs.declared.event.Happened.{Happened}
use Rattle.media_rows.specs.declared.object.Digest.{Digest}
use Rattle.media_rows.specs.declared.object.ObjectRow.{ObjectRow}
use Rattle.media_rows.specs.declared.request.DeleteRow.{DeleteRow}
use Rattle.media_rows.specs.declared.segment.SegmentRow.{SegmentRow}
use Rattle.media_rows.specs.Changes.{after, after_request_step, after_step_of, happened_in, is_flow_gone, moment_of, remove_flow, remove_segments, touch_flow, with_change, with_step}
use Rattle.media_rows.specs.Library.{Library}
use Rattle.media_rows.specs.Objects.{allocated_rows, is_stored, stored_row}
use Rattle.media_rows.specs.Outbox.{Posted, after_one, after_post, new_events}
use Rattle.media_rows.specs.Requests.{first_unfinished, removed_by_step}
use Rattle.media_rows.specs.Segments.{covered}
use Rattle.library_laws.proofs.ListLemmas.{In, In-append, In-map}
use Rattle.library_laws.proofs.ObjectsCome.{Came, came, kept, made, stored}

-- ---- where it comes from

-- it was there, and if it was stored it is
pub record Was (library : Library) (row : ObjectRow) : Type 0 where
  pub old : ObjectRow
  pub here : In old library.objects
  pub serial : row.serial ≡ old.serial
  pub stays : is_stored old.state ≡ true → is_stored row.state ≡ true

-- new objects have the next serials
allocated_late : (serial moment : ℕ) (ids : List (List ℕ)) (row : ObjectRow) → In row (allocated_rows serial moment ids) → serial ≤ row.serial
allocated_late serial moment [] row here = absurd here
allocated_late serial moment (id ∷ later) row (inl same) =
    let is = ap (λ (r : ObjectRow). r.serial) same in omega (arith, is)
allocated_late serial moment (id ∷ later) row (inr there) =
    let late = allocated_late (serial + 1) moment later row there in omega (arith, late)

was_before_allocating : (library : Library) (moment flow : ℕ) (ids : List (List ℕ)) (row : ObjectRow)
    → In row (after (changes.Allocate moment flow ids) library).objects → row.serial < library.next_serial → Was library row
was_before_allocating library moment flow ids row here early =
    elim (In-append library.objects (allocated_rows library.next_serial moment ids) row here) [
      | inl old ↦ record { old = row; here = old; serial = refl; stays = λ e. e }
      | inr new ↦ let late = allocated_late library.next_serial moment ids row new in absurd (omega (arith, early, late))
    ]

same_serial : (start size : ℕ) (digest : Option Digest) (moment : ℕ) (old : ObjectRow) (b : Bool) → (cond b (stored_row start size digest moment old) old).serial ≡ old.serial
same_serial start size digest moment old true = refl
same_serial start size digest moment old false = refl

was_before_storing : (library : Library) (moment : ℕ) (object : List ℕ) (start size : ℕ) (digest : Option Digest) (row : ObjectRow)
    → In row (after (changes.Store moment object start size digest) library).objects → is_stored row.state ≡ true → Was library row
was_before_storing library moment object start size digest row here is =
    let old = In-map (λ row. cond (bytes_eq row.id object) (stored_row start size digest moment row) row) library.objects row here in
    record {
      old = old.0;
      here = old.1;
      serial = ap (λ (r : ObjectRow). r.serial) old.2 ∙ same_serial start size digest moment old.0 (bytes_eq old.0.id object);
      stays = λ e. is;
    }

by_origin : (library : Library) (change : Change) (row : ObjectRow) → In row (after change library).objects → row.serial < library.next_serial
    → Came library change row → Was library row
by_origin library change row here early (kept old there serial id state) =
    record { old = old; here = there; serial = serial; stays = λ e. ap is_stored state ∙ e }
by_origin library change row here early (made moment flow ids is among state) =
    was_before_allocating library moment flow ids row (subst (λ (c : Change). In row (after c library).objects) is here) early
by_origin library change row here early (stored moment start size digest is state) =
    was_before_storing library moment row.id start size digest row (subst (λ (c : Change). In row (after c library).objects) is here) (ap is_stored state)

pub was : (library : Library) (change : Change) (row : ObjectRow) → In row (after change library).objects → row.serial < library.next_serial
    → Was library row
was library change row here early = by_origin library change row here early (came library change row here)

-- ---- serials rise

posts_rise : (happened : List Happened) (moment : ℕ) (p : Posted) → p.next ≤ (after_post happened moment p).next
posts_rise [] moment p = omega arith
posts_rise (one ∷ later) moment p =
    let rest = posts_rise later moment (record {
      outbox = after_one one moment p.next p.outbox;
      next = p.next + length (new_events one moment p.next p.outbox.hooks);
    }) in
    omega (arith, rest)

touched_same : (none : Bool) (one two : Library) → one.next_serial ≡ two.next_serial → (if none then one else two).next_serial ≡ one.next_serial
touched_same true one two same = refl
touched_same false one two same = sym same

touch_same : (flow : ℕ) (rows : List SegmentRow) (moment : ℕ) (library : Library) → (touch_flow flow rows moment library).next_serial ≡ library.next_serial
touch_same flow rows moment library = touched_same (length rows == 0) library _ refl

step_same : (moment : ℕ) (request : DeleteRow) (library : Library) → (after_request_step moment request library).next_serial ≡ library.next_serial
step_same moment request library =
    let removed = removed_by_step library.segments request in
    let touched : Library = touch_flow request.flow removed moment (with_step request moment library) in
    let stepped : Library = remove_segments removed moment touched in
    either (is_flow_gone request library) (remove_flow request.flow moment stepped) stepped refl
    ∙ touch_same request.flow removed moment (with_step request moment library)
  where
    either : (gone : Bool) (one two : Library) → one.next_serial ≡ two.next_serial → (if gone then one else two).next_serial ≡ two.next_serial
    either true one two same = same
    either false one two same = refl

steps_same : (o : Option DeleteRow) (moment : ℕ) (library : Library) → (after_step_of o moment library).next_serial ≡ library.next_serial
steps_same None moment library = refl
steps_same (Some request) moment library = step_same moment request library

rows_rise : (library : Library) (change : Change) → library.next_serial ≤ (with_change change library).next_serial
rows_rise library (changes.PutFlow moment flow) = omega arith
rows_rise library (changes.SetFlow moment flow part) = omega arith
rows_rise library (changes.SetSource moment source part) = omega arith
rows_rise library (changes.DropFlow moment flow) = omega arith
rows_rise library (changes.Allocate moment flow ids) = omega arith
rows_rise library (changes.Store moment object start size digest) = omega arith
rows_rise library (changes.AddSegments moment flow posts) = omega arith
rows_rise library (changes.CutSegments moment flow range) =
    let gone : List SegmentRow = covered library.segments flow range in
    let same = touch_same flow gone moment (remove_segments gone moment library) in omega (arith, same)
rows_rise library (changes.AskDelete moment flow range delete_flow) = omega arith
rows_rise library (changes.DeleteStep moment) = let same = steps_same (first_unfinished library.requests) moment library in omega (arith, same)
rows_rise library (changes.SweepStep moment) = omega arith
rows_rise library (changes.PutHook moment hook) = omega arith
rows_rise library (changes.DropHook moment url) = omega arith
rows_rise library (changes.Delivered moment event) = omega arith

pub serials_rise : (library : Library) (change : Change) → library.next_serial ≤ (after change library).next_serial
serials_rise library change =
    let rows = rows_rise library change in
    let next : Library = with_change change library in
    let posts = posts_rise (happened_in change library) (moment_of change) (record { outbox = next.outbox; next = next.next_serial }) in
    omega (arith, rows, posts)
