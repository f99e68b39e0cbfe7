use Rattle.std.proofs.Common.{◌≡◌, subst}
use Rattle.std.specs.Prelude.{IfOk}
use Rattle.media_rows.specs.declared.reply.Reply.{Reply}
use Rattle.media_rows.specs.Answer.{answer}
use Rattle.store_core.specs.Prepared.{preparation}
use Rattle.library_cases.proofs.Answered.{prepared_reply}
use Rattle.library_cases.proofs.kept.run.Goals as goal

-- what was prepared has the reply of the answer
pub returns-in-Ok : goal.returns-in-Ok
returns-in-Ok c =
    let library = c.args.kept.now.core.library in
    let outcome = answer library c.args.command.now c.args.now in
    let is = prepared_reply library outcome (preparation c.in-Ok.prepared) c.in-Ok.ensures.prepared in
    subst (λ (told : Reply). IfOk c.become_prepared.result (λ reply. reply ≡ told)) is c.become_prepared.ensures
