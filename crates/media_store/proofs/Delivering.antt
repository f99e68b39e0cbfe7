-- An event that was delivered goes by a change that applies.
use Rattle.std.proofs.Common.{◌≡◌, ℕ, Bool, true, false, cond, Option, Some, None, refl, sym, ap, subst, ◌∙◌}
use Rattle.std.specs.Prelude.{◌&&◌, not}
use Rattle.std.proofs.lemmas.Bool.{and_from, le-ltb, not_from_false}
use Rattle.media_rows.specs.declared.change.Change.{Change}
use Rattle.media_rows.specs.declared.change.Change.TheVariants.{Delivered}
use Rattle.media_rows.specs.declared.refusal.Refusal.TheVariants.{JournalFull}
use Rattle.media_rows.specs.declared.reply.Reply.TheVariants.{Done, Refused}
use Rattle.media_rows.specs.Answer.{Outcome, changed, unchanged}
use Rattle.media_rows.specs.Apply.{applies, is_allowed, passes_serials}
use Rattle.media_rows.specs.Good.{Good}
use Rattle.media_rows.specs.Library.{Library, last_serial}
use Rattle.media_rows.specs.Moments.{is_moment}
use Rattle.media_rows.specs.Outbox.{waits_first}
use Rattle.media_rows.specs.Sound.{is_sound}
use Rattle.library_laws.specs.ChangeLaws.{AppliesIsTested, SerialsEnd}
use Rattle.change_codec.specs.Fitting.{State, fits}
use Rattle.store_states.specs.Kept.{StoreView}
use Rattle.store_plans.specs.declared.outcome.Planned.{Planned}
use Rattle.store_plans.specs.Plans.{IsMadePlan, IsPlanned, IsStepPlan, PlanFits}
use Rattle.media_store.specs.Changes.{CanCommit}
use Rattle.media_store.specs.Deliveries.{delivery_of}
use Rattle.media_store.specs.Stores.{journal_of}

pub delivery_applies : AppliesIsTested → SerialsEnd → (library : Library) (event moment : ℕ) → Good library → is_moment moment ≡ true
    → waits_first event library.outbox.events ≡ true → applies library (Delivered moment event) ≡ true
delivery_applies tests last library event moment good at waits =
    let change = Delivered moment event in
    let under : not (passes_serials change library) ≡ true =
    not_from_false (passes_serials change library) (le-ltb last_serial library.next_serial (last library good)) in
    tests library change good
    ∙ and_from (is_allowed library change) (is_sound library change) waits
    (and_from (is_moment moment && true) (not (passes_serials change library)) (and_from (is_moment moment) true at refl) under)

-- its plan can be committed
pub delivery_ready : (kept : StoreView) (event moment : ℕ) (planned : Planned) → IsMadePlan (journal_of kept) (Delivered moment event) planned
    → PlanFits kept.journal planned → CanCommit kept planned
delivery_ready kept event moment planned made room = record { change = Some (Delivered moment event); step = made.makes; fits = room; bare = refl }

-- and is that of a step that is due
pub made_step : (journal : State) (change : Change) (planned : Planned) → IsMadePlan journal change planned → IsStepPlan journal (Some change) change planned
made_step journal change planned made = record {
  is = refl;
  fits = made.fits;
  plan = subst (λ (o : Outcome). IsPlanned journal o planned) (sym (ap (λ (b : Bool). cond b (changed Done change) (unchanged (Refused JournalFull))) made.fits))
      (record { reply = made.reply; step = made.makes });
}

-- where it doesn't fit there is none
pub none_delivered : (journal : State) (event moment : ℕ) → fits journal (Delivered moment event) ≡ false → delivery_of journal event moment ≡ None
none_delivered journal event moment full = ap (λ (b : Bool). cond b (Some (Delivered moment event)) None) full
