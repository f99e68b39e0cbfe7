use Rattle.std.proofs.Common.{Option, Some, None, sym, subst}
use Rattle.std.specs.Prelude.{option_map}
use Rattle.store_plans.specs.declared.puts.StorePlan.{StorePlan}
use Rattle.store_plans.specs.declared.room.Recorded.{Recorded}
use Rattle.store_plans.specs.Plans.{journal_in}
use Rattle.store_plans.specs.Within.{IsStorePlanned, store_plan_of}
use Rattle.store_plans.proofs.Storing.{plans_store}
use Rattle.store_plans.proofs.puts.plan_store.Goals as goal

-- nothing is planned where no record was found
pub returns-in-None : goal.returns-in-None
returns-in-None c =
    let position = c.args.journal.now in
    let library = c.args.core.now.library in
    let p = c.in_ok-prepared.prepared in
    subst (λ (o : Option Recorded). IsStorePlanned position (journal_in library position) c.args.object.now c.args.extent c.args.now (option_map (store_plan_of p) o))
    c.in-None.is
    (plans_store position library c.args.object.now c.args.extent c.args.now p c.keeps_good.ensures c.requires.moment c.requires.allocated c.in_ok-prepared.ensures
    c.in_ok-record_in.field-0 c.in_ok-record_in.ensures.found c.in_ok-record_in.ensures.fits)

-- and else the plan has it
pub returns-in-Some : goal.returns-in-Some
returns-in-Some c =
    let position = c.args.journal.now in
    let library = c.args.core.now.library in
    let p = c.in_ok-prepared.prepared in
    let planned = subst (λ (o : Option Recorded). IsStorePlanned position (journal_in library position) c.args.object.now c.args.extent c.args.now
    (option_map (store_plan_of p) o)) c.in-Some.is
    (plans_store position library c.args.object.now c.args.extent c.args.now p c.keeps_good.ensures c.requires.moment c.requires.allocated c.in_ok-prepared.ensures
    c.in_ok-record_in.field-0 c.in_ok-record_in.ensures.found c.in_ok-record_in.ensures.fits) in
    subst (λ (plan : StorePlan). IsStorePlanned position (journal_in library position) c.args.object.now c.args.extent c.args.now (Some plan))
    (sym c.store_plan.ensures) planned
