use Rattle.tams_answers.proofs.Planning.{command_planned, sent_brings_none}
use Rattle.tams_answers.proofs.plans.plan_command.Goals as goal

pub plan-requires-clause-sent : goal.plan-requires-clause-sent
plan-requires-clause-sent c = sent_brings_none c.args.command.now c.requires.sent

pub returns : goal.returns
returns c = λ head_only probe.
    command_planned c.args.store.now.kept c.args.command.now c.args.now head_only probe c.in_ok-planned.planned
    c.answers_have_texts.ensures.answers c.answers_have_texts.ensures.fitted c.keeps_good.ensures c.requires.moment c.requires.good c.requires.words
    c.requires.sent c.in_ok-planned.ensures.planned c.in_ok-planned.ensures.ready
