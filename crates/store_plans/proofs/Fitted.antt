-- What was prepared, and whether its change fits the journal.
use Rattle.std.proofs.Common.{◌≡◌, Bool, true, false, cond, Option, Some, None, refl, sym, ap, subst}
use Rattle.std.specs.Prelude.{Ok}
use Rattle.std.proofs.lemmas.Bool.{true≢false}
use Rattle.media_rows.specs.declared.change.Change.{Change}
use Rattle.media_rows.specs.declared.refusal.Refusal.TheVariants.{JournalFull}
use Rattle.media_rows.specs.declared.reply.Reply.{Reply}
use Rattle.media_rows.specs.declared.reply.Reply.TheVariants as replies
use Rattle.media_rows.specs.Answer.{Outcome, unchanged}
use Rattle.media_rows.specs.Library.{Library}
use Rattle.change_codec.specs.Fitting.{State}
use Rattle.core_parts.specs.Parts.{HeldLibrary}
use Rattle.store_core.specs.declared.prepare.Prepared.{Prepared}
use Rattle.store_core.specs.Prepared.{AppliesTo, Preparation, preparation, would_pass_serials, prepared_by, prepared_of}
use Rattle.store_states.specs.Fitting.{fitted_by}
use Rattle.store_plans.specs.declared.outcome.Planned.{Planned}
use Rattle.store_plans.specs.Plans.{IsPlanOf, IsPlanned}
use Rattle.store_plans.specs.Within.{IsFitted, IsPreparedFor, fits_if, prepared_outcome, still}
use Rattle.store_plans.proofs.Answered.{still_plan}
use Rattle.store_core.proofs.Prepares.{passed}

-- ---- what was prepared

same_core : (library : Library) (reply : Reply) (change : Option Change) → change ≡ None
    → (prepared_by library (record { reply = reply; change = change })).core ≡ library
same_core library reply None e = refl
same_core library reply (Some change) e = absurd (cc)

-- what is known of what an outcome makes
pub made_for : (library : Library) (outcome : Outcome) (p : Prepared) → prepared_by library outcome ≡ preparation p → AppliesTo library (preparation p)
    → IsPreparedFor library p
made_for library outcome p is applies = record {
  past = subst (λ (q : Preparation). q.past ≡ would_pass_serials library q.change) is refl;
  same = subst (λ (q : Preparation). q.change ≡ None → q.core ≡ library) is (same_core library outcome.reply outcome.change);
  applies = applies;
}

-- the same of what was prepared of an answer
pub prepared_is : (library : Library) (outcome : Outcome) (p : Preparation) → prepared_of library outcome ≡ Ok p → prepared_by library outcome ≡ p
prepared_is library outcome p e = passed outcome.reply (prepared_by library outcome) p e

-- and it is that outcome's
outcome_in : Preparation → Outcome
outcome_in p = record { reply = p.reply; change = p.change }

pub outcome_is : (library : Library) (outcome : Outcome) (p : Prepared) → prepared_by library outcome ≡ preparation p → prepared_outcome p ≡ outcome
unfolding outcome_in
outcome_is library outcome p is = sym (ap outcome_in is)

-- ---- the answer in the journal

same_by : (journal : State) (outcome : Outcome) (change : Option Change) → fits_if journal change ≡ true → fitted_by journal outcome change ≡ outcome
same_by journal outcome None e = refl
same_by journal outcome (Some change) e = ap (λ (b : Bool). cond b outcome (unchanged (replies.Refused JournalFull))) e

full_by : (journal : State) (outcome : Outcome) (change : Option Change) → fits_if journal change ≡ false
    → fitted_by journal outcome change ≡ unchanged (replies.Refused JournalFull)
full_by journal outcome None e = absurd (true≢false e)
full_by journal outcome (Some change) e = ap (λ (b : Bool). cond b outcome (unchanged (replies.Refused JournalFull))) e

-- the plan of one whose change fits is its plan in the journal
pub fits_plan : (journal : State) (outcome : Outcome) (planned : Planned) → IsFitted journal outcome (Some planned) → IsPlanOf journal outcome planned
fits_plan journal outcome planned is =
    subst (λ (o : Outcome). IsPlanned journal o planned) (sym (same_by journal outcome outcome.change is.0)) is.1

-- so what was prepared of an outcome is planned as that outcome
pub prepared_plan : (journal : State) (outcome : Outcome) (p : Prepared) (planned : Planned) → prepared_of journal.library outcome ≡ Ok (preparation p)
    → IsFitted journal (prepared_outcome p) (Some planned) → IsPlanOf journal outcome planned
prepared_plan journal outcome p planned e plan =
    fits_plan journal outcome planned
    (subst (λ (o : Outcome). IsFitted journal o (Some planned)) (outcome_is journal.library outcome p (prepared_is journal.library outcome (preparation p) e)) plan)

-- and where its change doesn't fit, the refusal is its plan
pub prepared_full : (journal : State) (outcome : Outcome) (p : Prepared) (planned : Planned) → prepared_of journal.library outcome ≡ Ok (preparation p)
    → IsFitted journal (prepared_outcome p) None → (held : HeldLibrary) → held.library ≡ journal.library → planned ≡ still held (replies.Refused JournalFull)
    → IsPlanOf journal outcome planned
prepared_full journal outcome p planned e full held same is =
    let none : fits_if journal outcome.change ≡ false =
    subst (λ (o : Outcome). IsFitted journal o None) (outcome_is journal.library outcome p (prepared_is journal.library outcome (preparation p) e)) full in
    subst (λ (o : Outcome). IsPlanned journal o planned) (sym (full_by journal outcome outcome.change none))
    (still_plan journal held (replies.Refused JournalFull) planned same is)
