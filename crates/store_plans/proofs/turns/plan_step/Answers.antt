use Rattle.std.proofs.Common.{◌≡◌, Option, true, false, sym, subst, ◌∙◌}
use Rattle.media_rows.specs.Apply.{turn}
use Rattle.store_core.specs.Prepared.{preparation}
use Rattle.store_plans.specs.declared.outcome.Planned.{Planned}
use Rattle.store_plans.specs.Plans.{journal_in}
use Rattle.store_plans.specs.Within.{IsFitted, is_delete_step, prepared_outcome}
use Rattle.store_plans.proofs.Due.{delete_plan, due_for, due_of, no_room_due, sweep_plan}
use Rattle.store_plans.proofs.turns.plan_step.Goals as goal

-- what was prepared is what the change makes that is due
pub fitted-requires : goal.fitted-requires
fitted-requires c =
    let library = c.args.core.now.library in
    due_for library (turn library c.args.now) c.args.prepared (due_of library c.args.now (preparation c.args.prepared) c.requires.turned) c.requires.applies

-- it has no room
pub returns-in-None-clause-planned : goal.returns-in-None-clause-planned
returns-in-None-clause-planned c =
    let journal = journal_in c.args.core.now.library c.args.journal.now in
    let full = subst (λ (o : Option Planned). IsFitted journal (prepared_outcome c.args.prepared) o) c.in-None.is c.in_ok-fitted.ensures.plan in
    no_room_due journal (turn c.args.core.now.library c.args.now) c.args.prepared
    (due_of c.args.core.now.library c.args.now (preparation c.args.prepared) c.requires.turned) full

-- it is a delete step
pub returns-then-deletes-clause-planned : goal.returns-then-deletes-clause-planned
returns-then-deletes-clause-planned c =
    let journal = journal_in c.args.core.now.library c.args.journal.now in
    let plan = subst (λ (o : Option Planned). IsFitted journal (prepared_outcome c.args.prepared) o) c.in-Some.is c.in_ok-fitted.ensures.plan in
    let deletes : is_delete_step c.args.prepared.change ≡ true = sym c.is_delete-deletes.ensures ∙ c.if-deletes.true in
    delete_plan journal c.args.now c.args.prepared c.in-Some.planned c.requires.turned deletes plan

-- or a sweep
pub returns-else-deletes-clause-planned : goal.returns-else-deletes-clause-planned
returns-else-deletes-clause-planned c =
    let journal = journal_in c.args.core.now.library c.args.journal.now in
    let plan = subst (λ (o : Option Planned). IsFitted journal (prepared_outcome c.args.prepared) o) c.in-Some.is c.in_ok-fitted.ensures.plan in
    let sweeps : is_delete_step c.args.prepared.change ≡ false = sym c.is_delete-deletes.ensures ∙ c.if-deletes.false in
    sweep_plan journal c.args.now c.args.prepared c.in-Some.planned c.requires.turned sweeps plan
