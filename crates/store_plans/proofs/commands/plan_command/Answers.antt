use Rattle.std.proofs.Common.{Option, refl, subst}
use Rattle.media_rows.specs.Answer.{answer}
use Rattle.store_core.specs.Prepared.{preparation}
use Rattle.store_plans.specs.declared.outcome.Planned.{Planned}
use Rattle.store_plans.specs.Plans.{journal_in}
use Rattle.store_plans.specs.Within.{IsFitted, prepared_outcome}
use Rattle.store_plans.proofs.Fitted.{made_for, prepared_full, prepared_is, prepared_plan}
use Rattle.store_plans.proofs.commands.plan_command.Goals as goal

-- what was prepared is what the answer makes
pub fitted-requires : goal.fitted-requires
fitted-requires c =
    let library = c.args.core.now.library in
    let outcome = answer library c.args.command.now c.args.now in
    made_for library outcome c.in-Ok.prepared (prepared_is library outcome (preparation c.in-Ok.prepared) c.in-Ok.ensures.prepared) c.in-Ok.ensures.applies

-- its plan is that of the answer
pub returns-in-Some-clause-planned : goal.returns-in-Some-clause-planned
returns-in-Some-clause-planned c =
    let journal = journal_in c.args.core.now.library c.args.journal.now in
    let plan = subst (λ (o : Option Planned). IsFitted journal (prepared_outcome c.in-Ok.prepared) o) c.in-Some.is c.in_ok-planned.ensures.plan in
    prepared_plan journal (answer c.args.core.now.library c.args.command.now c.args.now) c.in-Ok.prepared c.in-Some.planned c.in-Ok.ensures.prepared plan

-- and so is the refusal of a change that doesn't fit
pub returns-in_ok-unchanged-in-None-clause-planned : goal.returns-in_ok-unchanged-in-None-clause-planned
returns-in_ok-unchanged-in-None-clause-planned c =
    let journal = journal_in c.args.core.now.library c.args.journal.now in
    let full = subst (λ (o : Option Planned). IsFitted journal (prepared_outcome c.in-Ok.prepared) o) c.in-None.is c.in_ok-planned.ensures.plan in
    prepared_full journal (answer c.args.core.now.library c.args.command.now c.args.now) c.in-Ok.prepared c.in_ok-unchanged-in-None.field-0
    c.in-Ok.ensures.prepared full c.args.core.now refl c.in_ok-unchanged-in-None.ensures
