use Rattle.std.proofs.Common.{◌≡◌, ◌∙◌, true, ap}
use Rattle.json_replies.specs.Texts.{has_reply_texts}
use Rattle.media_store.specs.Puts.{put_reply}
use Rattle.tams_http.specs.Answered.{response_to}
use Rattle.tams_answers.specs.Within.{put_context}
use Rattle.tams_answers.proofs.PutAnswers.{has_responses, put_texts}
use Rattle.tams_answers.proofs.media.responses_to.Goals as goal

-- what a put may be answered can be printed
pub response_of-requires-clause-texts : goal.response_of-requires-clause-texts
response_of-requires-clause-texts c =
    ap has_reply_texts c.reply_if_same.ensures
    ∙ put_texts c.media_answers_have_texts.ensures c.answers_have_texts.ensures.fitted c.args.put.now c.requires.planned

pub returns : goal.returns
returns c =
    let context = put_context c.args.routes.now c.args.base.now c.args.head.now.target.now c.args.head.now.ends in
    let one : c.in_ok-reply.reply ≡ response_to context (put_reply (record c.args.put.now { same = true }) c.args.put.now.plan)
    = c.in_ok-reply.ensures ∙ ap (response_to context) c.reply_if_same.ensures in
    has_responses (record { reply = c.in_ok-reply.reply; other = c.in_ok-other.other }) context c.args.put.now one c.in_ok-other.ensures
