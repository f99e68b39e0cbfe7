-- A change that applies: it fits where its record has a place, and the plan makes it.
use Rattle.std.proofs.Common.{◌≡◌, true, false, cond, Some, None, refl, sym, ap, ◌∙◌}
use Rattle.std.specs.Prelude.{◌&&◌, not, nat_le}
use Rattle.std.proofs.lemmas.Bool.{and_from, and_parts, and_right, le-leb, ltb-false, not-true}
use Rattle.media_rows.specs.declared.change.Change.{Change}
use Rattle.media_rows.specs.declared.reply.Reply.TheVariants.{Done}
use Rattle.media_rows.specs.Apply.{applied, applies, is_allowed, passes_serials}
use Rattle.media_rows.specs.Changes.{after, moment_of}
use Rattle.media_rows.specs.Good.{Good}
use Rattle.media_rows.specs.Library.{Library, last_serial}
use Rattle.media_rows.specs.Moments.{is_moment}
use Rattle.media_rows.specs.Sound.{has_good_values, is_sound}
use Rattle.library_laws.specs.ChangeLaws.{AppliesIsTested}
use Rattle.change_codec.specs.Fitting.{State}
use Rattle.core_parts.specs.Parts.{HeldLibrary}
use Rattle.store_plans.specs.declared.outcome.Planned.{Planned}
use Rattle.store_plans.specs.declared.room.Recorded.{Recorded}
use Rattle.store_plans.specs.Plans.{HasNoPlace, IsMadePlan}
use Rattle.store_plans.specs.Within.{IsRecord, has_place}

-- its serials don't end
serials_stay : AppliesIsTested → (library : Library) (change : Change) → Good library → applies library change ≡ true
    → nat_le (after change library).next_serial last_serial ≡ true
serials_stay tests library change good does =
    let sound = (and_parts (is_allowed library change) (is_sound library change) (sym (tests library change good) ∙ does)).1 in
    let under = (and_parts (is_moment (moment_of change) && has_good_values change) (not (passes_serials change library)) sound).1 in
    le-leb (after change library).next_serial last_serial
    (ltb-false last_serial (after change library).next_serial (not-true (passes_serials change library) under))

-- where its record has no place, it doesn't fit
pub no_place : (journal : State) (change : Change) → applies journal.library change ≡ true → has_place journal change ≡ false → HasNoPlace journal change
no_place journal change does full = record {
  applies = does;
  full = and_right (nat_le (after change journal.library).next_serial last_serial) (has_place journal change) full;
}

-- the next library is what it makes
made_next : (library : Library) (change : Change) (next : Library) → applies library change ≡ true → next ≡ after change library
    → applied change library ≡ Some next
made_next library change next does is = ap (λ t. cond t (Some (after change library)) None) does ∙ ap Some (sym is)

-- the plan with its record
abbrev pub made_plan : HeldLibrary → Recorded → Planned
made_plan next recorded = record { next = next; frame = Some recorded.frame; rows = recorded.rows; reply = Done }

-- and with its record the plan makes it
pub made_change : AppliesIsTested → (journal : State) (change : Change) → Good journal.library → applies journal.library change ≡ true
    → (next : HeldLibrary) → next.library ≡ after change journal.library → (recorded : Recorded) → IsRecord journal change recorded
    → IsMadePlan journal change (made_plan next recorded)
made_change tests journal change good does next is recorded has = record {
  applies = does;
  fits = and_from (nat_le (after change journal.library).next_serial last_serial) (has_place journal change)
      (serials_stay tests journal.library change good does) has.place;
  makes = record {
    payload = recorded.frame;
    frame = refl;
    spells = has.spells;
    made = made_next journal.library change next.library does is;
    first = has.first;
  };
  reply = refl;
}
