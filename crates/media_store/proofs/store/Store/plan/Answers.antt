use Rattle.std.proofs.Common.{subst}
use Rattle.media_rows.specs.Answer.{answer}
use Rattle.store_states.specs.Fitting.{fitted}
use Rattle.store_plans.specs.Plans.{IsPlanOf, PlanFits}
use Rattle.media_store.specs.Stores.{StoreSeen, journal_of}
use Rattle.media_store.proofs.Commands.{none_fitted, none_stored}
use Rattle.media_store.proofs.Outcomes.{ready}
use Rattle.media_store.proofs.store.Store.plan.Goals as goal

pub returns-clause-planned : goal.returns-clause-planned
returns-clause-planned c =
    subst (λ (s : StoreSeen). IsPlanOf (journal_of s.kept) (answer s.kept.library c.args.command.now c.args.now) c.in_ok-planned.planned) c.self.view_is
    c.in_ok-planned.ensures.planned

pub returns-clause-ready : goal.returns-clause-ready
returns-clause-ready c =
    let kept = c.args.self.now.kept in
    let outcome = answer kept.library c.args.command.now c.args.now in
    let planned = subst (λ (s : StoreSeen). IsPlanOf (journal_of s.kept) (answer s.kept.library c.args.command.now c.args.now) c.in_ok-planned.planned)
    c.self.view_is c.in_ok-planned.ensures.planned in
    let fits = subst (λ (s : StoreSeen). PlanFits s.kept.journal c.in_ok-planned.planned) c.self.view_is c.in_ok-planned.ensures.fits in
    ready kept (fitted (journal_of kept) outcome) c.in_ok-planned.planned planned fits
    (none_fitted (journal_of kept) outcome (none_stored kept.library c.args.command.now c.args.now c.requires.sent))
