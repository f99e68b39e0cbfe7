-- A plan of an outcome that was written.
use Rattle.std.proofs.Common.{◌≡◌, ℕ, Bool, true, false, cond, List, [], Option, None, Some, Result, Ok, Err, is_ok, refl, sym, ap, subst, ◌∙◌}
use Rattle.std.specs.Prelude.{IfSome, OnOk}
use Rattle.std.proofs.lemmas.Bool.{false≢true}
use Rattle.disk_trait.specs.Forms.{form_in_use}
use Rattle.media_rows.specs.declared.change.Change.{Change}
use Rattle.media_rows.specs.declared.refusal.Refusal.TheVariants.{JournalFull}
use Rattle.media_rows.specs.declared.reply.Reply.TheVariants.{Done, Refused}
use Rattle.media_rows.specs.Answer.{Outcome, changed, unchanged}
use Rattle.media_rows.specs.Media.{fits_bytes}
use Rattle.disk_trait.specs.Device.{Device}
use Rattle.change_codec.specs.Codec.{SpellsChange}
use Rattle.change_codec.specs.Fitting.{State, fits}
use Rattle.change_codec.proofs.CodecLemmas.{one_change}
use Rattle.store_states.specs.Fitting.{FitsJournal, fitted}
use Rattle.store_states.specs.Kept.{AgreesWith, StoreView}
use Rattle.store_states.specs.States.{media_start}
use Rattle.store_writes.specs.Writes.{Keeps}
use Rattle.store_plans.specs.declared.outcome.Planned.{Planned}
use Rattle.store_plans.specs.Plans.{IsPlanned, IsStepPlan, MakesChange, MakesStep, PlanFits}
use Rattle.media_store.specs.Changes.{CameThere, CanCommit, FileStands, IsAfterChange, IsNextIf, ChangesStore, MakesIf, archive_next, bytes_by, bytes_if, bytes_with, kept_by, kept_with, stores}
use Rattle.media_store.specs.Stores.{journal_of}
use Rattle.media_store.specs.Turns.{turn_change}
use Rattle.media_store.proofs.Commands.{none_came, none_stand}
use Rattle.media_store.proofs.Planning.{planned_bytes, planned_next}

-- what is kept next hangs on the success of a change alone
by_success : (ok : Bool) (old new : Device) (kept made next : StoreView) (held : List (List ℕ)) (change : Change) → (ok ≡ true → next ≡ made)
    → ChangesStore ok change [] kept made held old new → ChangesStore ok change [] kept next held old new
by_success ok old new kept made next held change same makes = record {
  moments = makes.moments;
  agrees = λ is. subst (λ (k : StoreView). AgreesWith new k (archive_next kept held change []).held) (sym (same is)) (makes.agrees is);
}

pub made_if : (ok : Bool) (old new : Device) (kept next : StoreView) (held : List (List ℕ)) (change : Option Change) (planned : Planned)
    → MakesStep (journal_of kept) change planned → stores change ≡ false → (ok ≡ true → next ≡ kept_by kept planned)
    → (planned.frame ≡ None → Keeps kept held old new)
    → ((c : Change) (came : List ℕ) → MakesChange (journal_of kept) c planned → fits_bytes c came ≡ true → CameThere old kept c came
    → ChangesStore ok c came kept (kept_by kept planned) held old new)
    → MakesIf ok change kept next held old new
made_if ok old new kept next held None planned step none same nothing makes = nothing step.frame
made_if ok old new kept next held (Some change) planned step none same nothing makes =
    by_success ok old new kept (kept_by kept planned) next held change same
    (makes change [] step (none_came change none) (λ left could. none_stand left.image (media_start kept.journal.half) change none))

pub next_if : (kept next : StoreView) (change : Option Change) (planned : Planned) → MakesStep (journal_of kept) change planned
    → next ≡ kept_by kept planned → IsNextIf kept change next
next_if kept next None planned step is = is ∙ ap (kept_with kept planned) step.frame
next_if kept next (Some change) planned step is = subst (IsAfterChange kept change) (sym is) (planned_next kept change planned step)

-- the same by what a call answers
pub next_by : {X E : Type 0} (r : Result X E) (kept next : StoreView) (change : Option Change) (planned : Planned)
    → MakesStep (journal_of kept) change planned → OnOk r (next ≡ kept_by kept planned) → OnOk r (IsNextIf kept change next)
next_by (Ok x) kept next change planned step is = next_if kept next change planned step is
next_by (Err e) kept next change planned step is = tt

pub ok_so : {X E P : Type 0} (r : Result X E) → OnOk r P → is_ok r ≡ true → P
ok_so (Ok x) holds is = holds
ok_so (Err e) holds is = absurd (false≢true is)

pub bytes_if_are : (kept : StoreView) (change : Option Change) (planned : Planned) → MakesStep (journal_of kept) change planned
    → bytes_by planned ≡ bytes_if (journal_of kept) change
bytes_if_are kept None planned step = ap (bytes_with planned) step.frame
bytes_if_are kept (Some change) planned step = planned_bytes kept change planned step

-- a plan without a change has no record
pub no_frame : (journal : State) (change : Option Change) (planned : Planned) → MakesStep journal change planned → change ≡ None → planned.frame ≡ None
no_frame journal None planned step none = step.frame
no_frame journal (Some change) planned step none = absurd cc

-- ---- one plan makes one change

pub one_made : (journal : State) (a b : Change) (planned : Planned) → MakesChange journal a planned → MakesChange journal b planned → a ≡ b
one_made journal a b planned first second =
    let both : Some first.payload ≡ Some second.payload = sym first.frame ∙ second.frame in
    let same : second.payload ≡ first.payload = cc in
    one_change form_in_use first.payload a b first.spells (subst (λ (bytes : List ℕ). SpellsChange form_in_use bytes b) same second.spells)

pub one_step : (journal : State) (a b : Option Change) (planned : Planned) → MakesStep journal a planned → MakesStep journal b planned → a ≡ b
one_step journal None None planned first second = refl
one_step journal None (Some b) planned first second = let no : Some second.payload ≡ None = sym second.frame ∙ first.frame in absurd cc
one_step journal (Some a) None planned first second = let no : Some first.payload ≡ None = sym first.frame ∙ second.frame in absurd cc
one_step journal (Some a) (Some b) planned first second = ap Some (one_made journal a b planned first second)

-- ---- a plan of this store

pub ready : (kept : StoreView) (outcome : Outcome) (planned : Planned) → IsPlanned (journal_of kept) outcome planned
    → PlanFits kept.journal planned → stores outcome.change ≡ false → CanCommit kept planned
ready kept outcome planned is fit bare = record { change = outcome.change; step = is.step; fits = fit; bare = bare }

-- so is one that leaves the store as it is
pub still_ready : (kept : StoreView) (planned : Planned) → MakesStep (journal_of kept) None planned → CanCommit kept planned
still_ready kept planned step = record {
  change = None;
  step = step;
  fits = subst (λ (frame : Option (List ℕ)). IfSome frame (FitsJournal kept.journal planned.rows)) (sym step.frame) tt;
  bare = refl;
}

-- no change that such a plan makes stores an object
pub commits_bare : (kept : StoreView) (planned : Planned) (change : Option Change) → CanCommit kept planned → MakesStep (journal_of kept) change planned
    → stores change ≡ false
commits_bare kept planned change can step = ap stores (one_step (journal_of kept) change can.change planned step can.step) ∙ can.bare

-- ---- the file behind a call

-- a change that was made leaves a file that stands for what is kept then
pub made_stands : (old new : Device) (kept next : StoreView) (held : List (List ℕ)) (change : Option Change) → MakesIf true change kept next held old new
    → IsNextIf kept change next → FileStands new next
made_stands old new kept next held None makes is =
    record { held = held; agrees = subst (λ (k : StoreView). AgreesWith new k held) (sym is) makes.agrees }
made_stands old new kept next held (Some change) makes is = record { held = (archive_next kept held change []).held; agrees = makes.agrees refl }

-- the same by what a call answers
pub stands_by : {X E : Type 0} (r : Result X E) (old new : Device) (kept next : StoreView) (held : List (List ℕ)) (change : Option Change)
    → MakesIf (is_ok r) change kept next held old new → OnOk r (IsNextIf kept change next) → OnOk r (FileStands new next)
stands_by (Ok x) old new kept next held change makes is = made_stands old new kept next held change makes is
stands_by (Err e) old new kept next held change makes is = tt

-- the same of a change for which bytes came
pub changed_stands : {X E : Type 0} (r : Result X E) (old new : Device) (kept next now : StoreView) (held : List (List ℕ)) (change : Change)
    (came : List ℕ) → ChangesStore (is_ok r) change came kept next held old new → OnOk r (now ≡ next) → OnOk r (FileStands new now)
changed_stands (Ok x) old new kept next now held change came makes is =
    record { held = (archive_next kept held change came).held; agrees = subst (λ (k : StoreView). AgreesWith new k (archive_next kept held change came).held) (sym is) (makes.agrees refl) }
changed_stands (Err e) old new kept next now held change came makes is = tt

-- ---- a step that is due

pub step_change : (journal : State) (change : Change) → fits journal change ≡ true → (fitted journal (changed Done change)).change ≡ Some change
step_change journal change fit = ap (λ (b : Bool). (cond b (changed Done change) (unchanged (Refused JournalFull))).change) fit

pub due_change : (journal : State) (due : Option Change) (change : Change) → due ≡ Some change → fits journal change ≡ true
    → turn_change journal due ≡ Some change
due_change journal due change is fit = ap (turn_change journal) is ∙ ap (λ (b : Bool). cond b (Some change) None) fit

-- the change of a plan of a step that is due is that of the turn
pub step_is_due : (journal : State) (due : Option Change) (change : Change) (planned : Planned) → IsStepPlan journal due change planned
    → (fitted journal (changed Done change)).change ≡ turn_change journal due
step_is_due journal due change planned step = step_change journal change step.fits ∙ sym (due_change journal due change step.is step.fits)

-- so the plan makes that
pub step_makes : (journal : State) (due : Option Change) (change : Change) (planned : Planned) → IsStepPlan journal due change planned
    → MakesStep journal (turn_change journal due) planned
step_makes journal due change planned is =
    subst (λ (c : Option Change). MakesStep journal c planned) (step_is_due journal due change planned is) is.plan.step

pub step_stores_none : (journal : State) (due : Option Change) (change : Change) (planned : Planned) → IsStepPlan journal due change planned
    → stores (Some change) ≡ false → stores (fitted journal (changed Done change)).change ≡ false
step_stores_none journal due change planned step none = ap stores (step_change journal change step.fits) ∙ none
