use Rattle.std.proofs.lemmas.Result.{IfOk-weaker}
use Rattle.media_rows.specs.Views.{asked}
use Rattle.store_plans.proofs.Answered.{shown_ok}
use Rattle.store_plans.proofs.commands.plan_query.Goals as goal

-- what is shown is the reply
pub returns-in-Ok : goal.returns-in-Ok
returns-in-Ok c =
    let shown = asked c.args.core.now.library c.args.question.now in
    IfOk-weaker c.unchanged.result _ _ (λ planned is. shown_ok c.args.core.now shown c.in-Ok.reply planned c.in-Ok.ensures is) c.unchanged.ensures
