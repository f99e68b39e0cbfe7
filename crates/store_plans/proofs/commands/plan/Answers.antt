use Rattle.std.proofs.Common.{refl}
use Rattle.std.proofs.lemmas.Result.{IfOk-weaker}
use Rattle.media_rows.specs.Views.{asked}
use Rattle.store_plans.specs.Plans.{journal_in}
use Rattle.store_plans.proofs.Answered.{shown_plan}
use Rattle.store_plans.proofs.commands.plan.Goals as goal

-- what is shown is the answer
pub returns-in-Ask-clause-planned : goal.returns-in-Ask-clause-planned
returns-in-Ask-clause-planned c =
    let held = c.args.core.now in
    let shown = asked held.library c.in-Ask.question in
    rw c.in-Ask.is (IfOk-weaker c.plan_query.result _ _ (λ planned is. shown_plan (journal_in held.library c.args.journal.now) held shown planned refl is)
    c.plan_query.ensures)
