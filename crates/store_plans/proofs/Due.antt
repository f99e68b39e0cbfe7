-- The change that is due in a turn, and its kind.
use Rattle.std.proofs.Common.{◌≡◌, ℕ, Bool, true, false, cond, Option, Some, None, refl, ap, subst}
use Rattle.std.specs.Prelude.{nat_lt, length, is_some, option_map}
use Rattle.media_rows.specs.declared.change.Change.{Change}
use Rattle.media_rows.specs.declared.change.Change.TheVariants as changes
use Rattle.media_rows.specs.declared.reply.Reply.TheVariants.{Done}
use Rattle.media_rows.specs.Answer.{Outcome, changed}
use Rattle.media_rows.specs.Apply.{turn}
use Rattle.media_rows.specs.Library.{Library}
use Rattle.media_rows.specs.Objects.{swept_objects}
use Rattle.media_rows.specs.Requests.{first_unfinished}
use Rattle.change_codec.specs.Fitting.{State}
use Rattle.store_core.specs.declared.prepare.Prepared.{Prepared}
use Rattle.store_core.specs.Prepared.{AppliesTo, Preparation, preparation, prepared_by, turned}
use Rattle.store_plans.specs.declared.outcome.Planned.{Planned}
use Rattle.store_plans.specs.Plans.{HasNoRoom, IsStepPlan}
use Rattle.store_plans.specs.Within.{IsFitted, IsPreparedFor, is_delete_step, prepared_outcome}
use Rattle.store_plans.proofs.Fitted.{fits_plan, made_for, outcome_is}

-- ---- what was prepared of a turn

-- something was prepared of a change that is due
pub record IsDue (library : Library) (due : Option Change) (p : Preparation) : Type 0 where
  pub change : Change
  pub is : due ≡ Some change
  pub made : prepared_by library (changed Done change) ≡ p

due_by : (library : Library) (due : Option Change) (p : Preparation) → option_map (λ change. prepared_by library (changed Done change)) due ≡ Some p
    → IsDue library due p
due_by library None p e = absurd (cc)
due_by library (Some change) p e = record { change = change; is = refl; made = cc }

pub due_of : (library : Library) (moment : ℕ) (p : Preparation) → turned library moment ≡ Some p → IsDue library (turn library moment) p
due_of library moment p e = due_by library (turn library moment) p e

-- where something was prepared, something is due
pub some_due : (library : Library) (moment : ℕ) (p : Preparation) → turned library moment ≡ Some p → is_some (turn library moment) ≡ true
some_due library moment p e = ap is_some (due_of library moment p e).is

-- what is known of it
pub due_for : (library : Library) (due : Option Change) (p : Prepared) → IsDue library due (preparation p) → AppliesTo library (preparation p)
    → IsPreparedFor library p
due_for library due p is applies = made_for library (changed Done is.change) p is.made applies

-- ---- its kind

-- a change of a turn, by whether it is a delete step
abbrev pub IsKind : ℕ → Change → Bool → Type 0
IsKind moment change true = change ≡ changes.DeleteStep moment
IsKind moment change false = change ≡ changes.SweepStep moment

kind_by : (deletes sweeps : Bool) (moment : ℕ) (change : Change)
    → cond deletes (Some (changes.DeleteStep moment)) (cond sweeps (Some (changes.SweepStep moment)) None) ≡ Some change
    → IsKind moment change (is_delete_step (Some change))
kind_by true sweeps moment change e =
    let same : changes.DeleteStep moment ≡ change = cc in
    subst (λ (c : Change). IsKind moment c (is_delete_step (Some c))) same refl
kind_by false true moment change e =
    let same : changes.SweepStep moment ≡ change = cc in
    subst (λ (c : Change). IsKind moment c (is_delete_step (Some c))) same refl
kind_by false false moment change e = absurd (cc)

kind_of : (library : Library) (moment : ℕ) (change : Change) → turn library moment ≡ Some change → IsKind moment change (is_delete_step (Some change))
kind_of library moment change e =
    kind_by (is_some (first_unfinished library.requests)) (nat_lt 0 (length (swept_objects library.segments library.objects moment))) moment change e

-- ---- its plan

-- a change that doesn't fit
pub no_room_due : (journal : State) (due : Option Change) (p : Prepared) → IsDue journal.library due (preparation p) → IsFitted journal (prepared_outcome p) None
    → HasNoRoom journal due
no_room_due journal due p is full = record {
  change = is.change;
  is = is.is;
  full = subst (λ (o : Outcome). IsFitted journal o None) (outcome_is journal.library (changed Done is.change) p is.made) full;
}

step_by : (journal : State) (due : Option Change) (p : Prepared) (planned : Planned) → (is : IsDue journal.library due (preparation p))
    → IsFitted journal (prepared_outcome p) (Some planned) → IsStepPlan journal due is.change planned
step_by journal due p planned is plan =
    let fits : IsFitted journal (changed Done is.change) (Some planned) =
    subst (λ (o : Outcome). IsFitted journal o (Some planned)) (outcome_is journal.library (changed Done is.change) p is.made) plan in
    record { is = is.is; fits = fits.0; plan = fits_plan journal (changed Done is.change) planned fits }

-- the kind of what was prepared
prepared_kind : (library : Library) (moment : ℕ) (p : Prepared) → (is : IsDue library (turn library moment) (preparation p))
    → IsKind moment is.change (is_delete_step p.change)
prepared_kind library moment p is =
    subst (λ (q : Preparation). IsKind moment is.change (is_delete_step q.change)) is.made (kind_of library moment is.change is.is)

-- a delete step, and a sweep
pub delete_plan : (journal : State) (moment : ℕ) (p : Prepared) (planned : Planned) → turned journal.library moment ≡ Some (preparation p)
    → is_delete_step p.change ≡ true → IsFitted journal (prepared_outcome p) (Some planned)
    → IsStepPlan journal (turn journal.library moment) (changes.DeleteStep moment) planned
delete_plan journal moment p planned e deletes plan =
    let is = due_of journal.library moment (preparation p) e in
    let kind : is.change ≡ changes.DeleteStep moment =
    subst (λ (b : Bool). IsKind moment is.change b) deletes (prepared_kind journal.library moment p is) in
    subst (λ (c : Change). IsStepPlan journal (turn journal.library moment) c planned) kind (step_by journal (turn journal.library moment) p planned is plan)

pub sweep_plan : (journal : State) (moment : ℕ) (p : Prepared) (planned : Planned) → turned journal.library moment ≡ Some (preparation p)
    → is_delete_step p.change ≡ false → IsFitted journal (prepared_outcome p) (Some planned)
    → IsStepPlan journal (turn journal.library moment) (changes.SweepStep moment) planned
sweep_plan journal moment p planned e sweeps plan =
    let is = due_of journal.library moment (preparation p) e in
    let kind : is.change ≡ changes.SweepStep moment =
    subst (λ (b : Bool). IsKind moment is.change b) sweeps (prepared_kind journal.library moment p is) in
    subst (λ (c : Change). IsStepPlan journal (turn journal.library moment) c planned) kind (step_by journal (turn journal.library moment) p planned is plan)
