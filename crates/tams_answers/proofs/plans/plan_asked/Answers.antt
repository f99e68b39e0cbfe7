use Rattle.std.proofs.Common.{◌≡◌, ◌∙◌, true, Err, Ok, ap, subst, sym}
use Rattle.std.specs.Prelude.{IfOk, IsTrue, Result}
use Rattle.media_rows.specs.declared.refusal.Refusal.{Refusal}
use Rattle.tams_http.specs.Good.{is_ask_good}
use Rattle.tams_http.specs.declared.ask.Ask.{Ask}
use Rattle.tams_http.specs.declared.ask.Ask.TheVariants.{Run}
use Rattle.tams_machine.specs.Requests.{is_head_only}
use Rattle.tams_answers.proofs.Founds.{of_command, of_get, of_refusal}
use Rattle.tams_answers.proofs.plans.plan_asked.Goals as goal

-- a command of a request is good
pub plan_command-requires-clause-good : goal.plan_command-requires-clause-good
plan_command-requires-clause-good c =
    let run = rw c.in-Ok-Run.is at c.in-Ok-Run.field-0-is in
    let is = c.in-Ok-Run.is ∙ ap (λ (a : Ask). Ok a) run in
    rw (c.in-Ok-Run.is, run)
    (c.asks_are_good.ensures c.args.store.now.kept.library c.args.routes.now c.args.request.now.method c.args.request.now.target.now
    c.args.request.now.body.now (Run c.in-Ok-Run.command) (sym c.requires.asked ∙ is)
    (subst (λ (r : Result Ask Refusal). IfOk r (λ ask. IsTrue (is_ask_good ask))) is c.requires.good))

pub returns-in-Ok-Run : goal.returns-in-Ok-Run
returns-in-Ok-Run c =
    let run = rw c.in-Ok-Run.is at c.in-Ok-Run.field-0-is in
    of_command c.args.store.now.kept c.args.now (is_head_only c.args.request.now.method) c.args.asked.ask c.args.probe c.in-Ok-Run.command
    c.plan_command.result (c.in-Ok-Run.is ∙ ap (λ (a : Ask). Ok a) run) (rw (c.in-Ok-Run.is, run) at c.plan_command.ensures)

pub returns-in-Ok-GetMedia : goal.returns-in-Ok-GetMedia
returns-in-Ok-GetMedia c =
    let get = rw c.in-Ok-GetMedia.is at c.in-Ok-GetMedia.field-0-is in
    of_get c.args.store.now.kept c.args.now (is_head_only c.args.request.now.method) c.is_head_only.result c.args.asked.ask c.args.probe
    c.in-Ok-GetMedia.object c.plan_get.result (c.in-Ok-GetMedia.is ∙ ap (λ (a : Ask). Ok a) get) c.is_head_only.ensures
    (rw (c.in-Ok-GetMedia.is, get) at c.plan_get.ensures)

pub returns-in-Err : goal.returns-in-Err
returns-in-Err c =
    of_refusal c.args.store.now.kept c.args.now (is_head_only c.args.request.now.method) c.args.asked.ask c.args.probe c.in-Err.why c.plan_refusal.result
    c.in-Err.is (rw c.in-Err.is at c.plan_refusal.ensures)
