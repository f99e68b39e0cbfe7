use Rattle.tams_answers.proofs.Planning.{get_is}
use Rattle.tams_answers.proofs.plans.plan_get.Goals as goal

pub returns : goal.returns
returns c = λ moment.
    get_is c.args.store.now.kept c.args.object.now moment c.args.head_only c.args.probe c.in_ok-planned.planned c.reply_at.result c.extent_of-extent.result
    c.following_at-media.result c.extent_of-extent.ensures c.reply_at.ensures c.following_at-media.ensures c.in_ok-planned.ensures.planned
    c.in_ok-planned.ensures.ready
