use Rattle.std.proofs.Common.{None, Some, refl, subst, sym, ◌∙◌, ◌≡◌}
use Rattle.media_rows.specs.declared.change.Change.TheVariants.{DeleteStep, SweepStep}
use Rattle.media_rows.specs.declared.reply.Reply.TheVariants.{Done}
use Rattle.media_rows.specs.Answer.{changed}
use Rattle.media_rows.specs.Apply.{turn}
use Rattle.store_plans.specs.declared.turns.TurnPlan.TheVariants.{Delete, Sweep}
use Rattle.store_plans.specs.Plans.{IsTurnPlan, TurnFits}
use Rattle.store_states.specs.Fitting.{fitted}
use Rattle.media_store.specs.Stores.{StoreSeen, journal_of}
use Rattle.media_store.proofs.Outcomes.{due_change, ready, step_stores_none}
use Rattle.media_store.proofs.store.Store.turn.Goals as goal

pub step-requires-clause-ready : goal.step-requires-clause-ready
step-requires-clause-ready g c =
    let step = subst (λ (s : StoreSeen). IsTurnPlan (journal_of s.kept) c.args.now (Delete c.in-Delete.planned)) c.self.view_is
    (rw c.in-Delete.is at c.in_ok-plan_turn.ensures.planned) in
    let fits = subst (λ (s : StoreSeen). TurnFits s.kept.journal (Delete c.in-Delete.planned)) c.self.view_is
    (rw c.in-Delete.is at c.in_ok-plan_turn.ensures.fits) in
    let journal = journal_of c.args.self.now.kept in
    ready c.args.self.now.kept (fitted journal (changed Done (DeleteStep c.args.now))) c.in-Delete.planned step.plan fits
    (step_stores_none journal (turn c.args.self.now.kept.library c.args.now) (DeleteStep c.args.now) c.in-Delete.planned step refl)

pub returns-in-Delete-clause-makes : goal.returns-in-Delete-clause-makes
returns-in-Delete-clause-makes g c = λ honest shows held agrees.
    let step = subst (λ (s : StoreSeen). IsTurnPlan (journal_of s.kept) c.args.now (Delete c.in-Delete.planned)) c.self.view_is
    (rw c.in-Delete.is at c.in_ok-plan_turn.ensures.planned) in
    c.step.ensures.makes honest shows held (turn c.args.self.now.kept.library c.args.now) (DeleteStep c.args.now) agrees step

pub returns-in-Delete-clause-next : goal.returns-in-Delete-clause-next
returns-in-Delete-clause-next g c =
    let step = subst (λ (s : StoreSeen). IsTurnPlan (journal_of s.kept) c.args.now (Delete c.in-Delete.planned)) c.self.view_is
    (rw c.in-Delete.is at c.in_ok-plan_turn.ensures.planned) in
    c.step.ensures.next (turn c.args.self.now.kept.library c.args.now) (DeleteStep c.args.now) step

pub returns-in-Delete-clause-unchanged : goal.returns-in-Delete-clause-unchanged
returns-in-Delete-clause-unchanged g c = λ none.
    let step = subst (λ (s : StoreSeen). IsTurnPlan (journal_of s.kept) c.args.now (Delete c.in-Delete.planned)) c.self.view_is
    (rw c.in-Delete.is at c.in_ok-plan_turn.ensures.planned) in
    let no : Some (DeleteStep c.args.now) ≡ None = sym (due_change (journal_of c.args.self.now.kept) (turn c.args.self.now.kept.library c.args.now) (DeleteStep c.args.now) step.is step.fits) ∙ none in
    absurd cc

pub returns-in-Delete-clause-handed : goal.returns-in-Delete-clause-handed
returns-in-Delete-clause-handed g c = λ tells.
    let step = subst (λ (s : StoreSeen). IsTurnPlan (journal_of s.kept) c.args.now (Delete c.in-Delete.planned)) c.self.view_is
    (rw c.in-Delete.is at c.in_ok-plan_turn.ensures.planned) in
    c.step.ensures.handed tells (turn c.args.self.now.kept.library c.args.now) (DeleteStep c.args.now) step

pub returns-in-Delete-clause-handed_at_most : goal.returns-in-Delete-clause-handed_at_most
returns-in-Delete-clause-handed_at_most g c = λ tells.
    let step = subst (λ (s : StoreSeen). IsTurnPlan (journal_of s.kept) c.args.now (Delete c.in-Delete.planned)) c.self.view_is
    (rw c.in-Delete.is at c.in_ok-plan_turn.ensures.planned) in
    c.step.ensures.handed_at_most tells (turn c.args.self.now.kept.library c.args.now) (DeleteStep c.args.now) step

pub step-requires-in-Sweep-clause-ready : goal.step-requires-in-Sweep-clause-ready
step-requires-in-Sweep-clause-ready g c =
    let step = subst (λ (s : StoreSeen). IsTurnPlan (journal_of s.kept) c.args.now (Sweep c.in-Sweep.planned)) c.self.view_is
    (rw c.in-Sweep.is at c.in_ok-plan_turn.ensures.planned) in
    let fits = subst (λ (s : StoreSeen). TurnFits s.kept.journal (Sweep c.in-Sweep.planned)) c.self.view_is
    (rw c.in-Sweep.is at c.in_ok-plan_turn.ensures.fits) in
    let journal = journal_of c.args.self.now.kept in
    ready c.args.self.now.kept (fitted journal (changed Done (SweepStep c.args.now))) c.in-Sweep.planned step.plan fits
    (step_stores_none journal (turn c.args.self.now.kept.library c.args.now) (SweepStep c.args.now) c.in-Sweep.planned step refl)

pub returns-in-Sweep-clause-makes : goal.returns-in-Sweep-clause-makes
returns-in-Sweep-clause-makes g c = λ honest shows held agrees.
    let step = subst (λ (s : StoreSeen). IsTurnPlan (journal_of s.kept) c.args.now (Sweep c.in-Sweep.planned)) c.self.view_is
    (rw c.in-Sweep.is at c.in_ok-plan_turn.ensures.planned) in
    c.step-in-Sweep.ensures.makes honest shows held (turn c.args.self.now.kept.library c.args.now) (SweepStep c.args.now) agrees step

pub returns-in-Sweep-clause-next : goal.returns-in-Sweep-clause-next
returns-in-Sweep-clause-next g c =
    let step = subst (λ (s : StoreSeen). IsTurnPlan (journal_of s.kept) c.args.now (Sweep c.in-Sweep.planned)) c.self.view_is
    (rw c.in-Sweep.is at c.in_ok-plan_turn.ensures.planned) in
    c.step-in-Sweep.ensures.next (turn c.args.self.now.kept.library c.args.now) (SweepStep c.args.now) step

pub returns-in-Sweep-clause-unchanged : goal.returns-in-Sweep-clause-unchanged
returns-in-Sweep-clause-unchanged g c = λ none.
    let step = subst (λ (s : StoreSeen). IsTurnPlan (journal_of s.kept) c.args.now (Sweep c.in-Sweep.planned)) c.self.view_is
    (rw c.in-Sweep.is at c.in_ok-plan_turn.ensures.planned) in
    let no : Some (SweepStep c.args.now) ≡ None = sym (due_change (journal_of c.args.self.now.kept) (turn c.args.self.now.kept.library c.args.now) (SweepStep c.args.now) step.is step.fits) ∙ none in
    absurd cc

pub returns-in-Sweep-clause-handed : goal.returns-in-Sweep-clause-handed
returns-in-Sweep-clause-handed g c = λ tells.
    let step = subst (λ (s : StoreSeen). IsTurnPlan (journal_of s.kept) c.args.now (Sweep c.in-Sweep.planned)) c.self.view_is
    (rw c.in-Sweep.is at c.in_ok-plan_turn.ensures.planned) in
    c.step-in-Sweep.ensures.handed tells (turn c.args.self.now.kept.library c.args.now) (SweepStep c.args.now) step

pub returns-in-Sweep-clause-handed_at_most : goal.returns-in-Sweep-clause-handed_at_most
returns-in-Sweep-clause-handed_at_most g c = λ tells.
    let step = subst (λ (s : StoreSeen). IsTurnPlan (journal_of s.kept) c.args.now (Sweep c.in-Sweep.planned)) c.self.view_is
    (rw c.in-Sweep.is at c.in_ok-plan_turn.ensures.planned) in
    c.step-in-Sweep.ensures.handed_at_most tells (turn c.args.self.now.kept.library c.args.now) (SweepStep c.args.now) step
