-- A change applies where its moment and its values are good, nothing refuses it, and its serials don't end.
use Rattle.std.proofs.Common.{◌≡◌, ℕ, Bool, true, false, cond, List, Option, Some, None, refl, sym, subst, ap, ◌∙◌}
use Rattle.std.specs.Prelude.{Result, Ok, Err, is_none, IfSome, IsTrue, ◌==◌, ◌&&◌, ◌||◌, not, nat_lt, nat_le}
use Rattle.std.proofs.lemmas.Bool.{and_from, and_left, and_parts, and_right, le-ltb, leb-false, leb-true, lt-ltb}
use Rattle.media_rows.specs.declared.change.Change.{Change}
use Rattle.media_rows.specs.declared.change.Change.TheVariants as changes
use Rattle.media_rows.specs.declared.command.Command.TheVariants as commands
use Rattle.media_rows.specs.declared.object.Digest.{Digest}
use Rattle.media_rows.specs.declared.object.Extent.{Extent}
use Rattle.media_rows.specs.declared.refusal.BookFault.{BookFault}
use Rattle.media_rows.specs.declared.refusal.BookFault.TheVariants as books
use Rattle.media_rows.specs.declared.refusal.Refusal.{Refusal}
use Rattle.media_rows.specs.declared.reply.Reply.TheVariants as replies
use Rattle.media_rows.specs.declared.row.Row.{Row}
use Rattle.media_rows.specs.Answer.{answer_by, changed}
use Rattle.media_rows.specs.Apply.{applies, is_allowed, passes_serials}
use Rattle.media_rows.specs.Changes.{after, moment_of}
use Rattle.media_rows.specs.Good.{Good, is_good}
use Rattle.media_rows.specs.Library.{Library, last_serial}
use Rattle.media_rows.specs.Lists.{rises}
use Rattle.media_rows.specs.Moments.{is_moment}
use Rattle.media_rows.specs.Objects.{kept_digest, blocks_of, is_free}
use Rattle.media_rows.specs.Refusals.{IsChange, Restores}
use Rattle.media_rows.specs.Snapshot.{have_numbers, library_of, row_before}
use Rattle.media_rows.specs.Sound.{has_good_values, is_good_command, is_sound}
use Rattle.library_laws.specs.ChangeLaws.{AppliedIsSound, AppliesIsTested}
use Rattle.library_laws.specs.Laws.{AnswersApply, AppliesWithin, GoodIsTested}
use Rattle.core_parts.specs.Conditions.{HasRoom, IsReady}
use Rattle.core_parts.specs.Parts.{within_serials}
use Rattle.core_restore.specs.Restored.{are_rows_of_good}
use Rattle.store_core.specs.Within.{without_reason}

-- ---- where the serials don't end

abbrev Within : Library → Library → Type 0
Within next library = (nat_lt last_serial library.next_serial ≡ false) × (next ≡ library)

-- a next library is the one that the change makes, and its serials haven't ended
is_within : (next library : Library) → Some next ≡ within_serials library → Within next library
is_within next library e = by (nat_le library.next_serial last_serial) refl e
  where
    by : (t : Bool) → nat_le library.next_serial last_serial ≡ t → Some next ≡ cond t (Some library) None
        → (nat_lt last_serial library.next_serial ≡ false) × (next ≡ library)
    by true most e' = (le-ltb last_serial library.next_serial (leb-true library.next_serial last_serial most), cc)
    by false over e' = absurd (cc)

is_past : (library : Library) → None ≡ within_serials library → nat_lt last_serial library.next_serial ≡ true
is_past library e = by (nat_le library.next_serial last_serial) refl e
  where
    by : (t : Bool) → nat_le library.next_serial last_serial ≡ t → None ≡ cond t (Some library) None
        → nat_lt last_serial library.next_serial ≡ true
    by true most e' = absurd (cc)
    by false over e' = lt-ltb last_serial library.next_serial (leb-false library.next_serial last_serial over)

-- ---- a change that applies

pub record IsApplied (library : Library) (change : Change) (next : Library) : Type 0 where
  pub applies : IsTrue (applies library change)
  pub is : next ≡ after change library
  pub good : Good next

pub applied_next : AppliesIsTested → GoodIsTested → (library : Library) (change : Change) → Good library → is_moment (moment_of change) ≡ true
    → has_good_values change ≡ true → is_allowed library change ≡ true → (next : Library) → Some next ≡ within_serials (after change library)
    → IsApplied library change next
applied_next tests tested library change good at values allowed next e =
    let room = is_within next (after change library) e in
    let does : applies library change ≡ true =
    tests library change good
    ∙ and_from (is_allowed library change) (is_sound library change) allowed
    (and_from (is_moment (moment_of change) && has_good_values change) (not (passes_serials change library))
    (and_from (is_moment (moment_of change)) (has_good_values change) at values) (ap not room.0)) in
    let parts = and_parts (is_moment (moment_of change) && is_allowed library change) (is_good (after change library)) does in
    record {
      applies = does;
      is = room.1;
      good = subst Good (sym room.1) ((tested (after change library)).0 parts.1);
    }

-- ---- and one that doesn't

pub not_allowed : AppliesIsTested → (library : Library) (change : Change) → Good library → is_allowed library change ≡ false
    → applies library change ≡ false
not_allowed tests library change good not_so = tests library change good ∙ and_left (is_allowed library change) (is_sound library change) not_so

not_sound : AppliesIsTested → (library : Library) (change : Change) → Good library → is_sound library change ≡ false → applies library change ≡ false
not_sound tests library change good not_so = tests library change good ∙ and_right (is_allowed library change) (is_sound library change) not_so

pub at_no_moment : AppliesIsTested → (library : Library) (change : Change) → Good library → is_moment (moment_of change) ≡ false
    → applies library change ≡ false
at_no_moment tests library change good not_so =
    not_sound tests library change good
    (and_left (is_moment (moment_of change) && has_good_values change) (not (passes_serials change library))
    (and_left (is_moment (moment_of change)) (has_good_values change) not_so))

pub bad_values : AppliesIsTested → (library : Library) (change : Change) → Good library → has_good_values change ≡ false
    → applies library change ≡ false
bad_values tests library change good not_so =
    not_sound tests library change good
    (and_left (is_moment (moment_of change) && has_good_values change) (not (passes_serials change library))
    (and_right (is_moment (moment_of change)) (has_good_values change) not_so))

pub past_serials : AppliesIsTested → (library : Library) (change : Change) → Good library → None ≡ within_serials (after change library)
    → applies library change ≡ false
past_serials tests library change good e =
    not_sound tests library change good
    (and_right (is_moment (moment_of change) && has_good_values change) (not (passes_serials change library))
    (ap not (is_past (after change library) e)))

-- a change of a library without the reason why it is refused
pub restores_change : {T : Type 0} (refusal : Option Refusal) (next : T) (result : Result T BookFault) → IsChange refusal next result
    → Restores (is_none refusal) next (without_reason result)
restores_change refusal next (Ok value) is = (ap is_none is.0, is.1)
restores_change refusal next (Err (books.Refused why)) is = ap is_none is
restores_change refusal next (Err books.Memory) is = tt

-- rows of a good library make it
pub restored_good : GoodIsTested → (id blocks : ℕ) (rows : List Row) → are_rows_of_good id blocks rows ≡ true → Good (library_of id blocks rows)
restored_good tested id blocks rows good =
    let numbered = and_parts (rises row_before rows) (have_numbers rows && is_good (library_of id blocks rows)) good in
    (tested (library_of id blocks rows)).0 (and_parts (have_numbers rows) (is_good (library_of id blocks rows)) numbered.1).1

-- ---- the place of an object

-- an object that is to be kept, and isn't refused its bytes, has room at its place
pub has_room : AnswersApply → AppliedIsSound → (library : Library) (object : List ℕ) (extent : Extent) (digest : Digest) (moment : ℕ) → Good library
    → IsReady library → is_good_command library (commands.Keep object extent.start extent.length digest) ≡ true → is_moment moment ≡ true → HasRoom library object extent
has_room apply sound library object extent digest moment good ready command at = λ free.
    let store = changes.Store moment object extent.start extent.length (kept_digest digest) in
    let then : AppliesWithin library store = subst
    (λ refusal. IfSome (answer_by refusal (changed replies.Created store)).change (AppliesWithin library)) free
    (apply library (commands.Keep object extent.start extent.length digest) moment good command at) in
    let was = sound library store (after store library) (then (le-ltb last_serial library.next_serial ready.within)) in
    let allowed = and_parts _ (is_free library.objects library.blocks (blocks_of extent.length) extent.start) was.allowed in
    and_from (is_free library.objects library.blocks (blocks_of extent.length) extent.start) (nat_lt 0 extent.length || (extent.start == 0))
    allowed.1 was.sound.values
