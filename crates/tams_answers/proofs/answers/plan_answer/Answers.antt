use Rattle.tams_answers.proofs.answers.plan_answer.Goals as goal

-- the plan is that of the request's parts, and the response is made for its context
pub returns-clause-answers : goal.returns-clause-answers
returns-clause-answers c = λ held r tells sent.
    let body = c.args.request.now.body.now in
    let plans = rw (c.requires.asked, c.requires.routes) at c.in_ok-planned.ensures in
    let told = rw (c.requires.asked, c.requires.routes) at tells in
    let made = rw (c.requires.routes, c.is_head_only.ensures) at c.in_ok-response.ensures in
    record {
      planned = record {
        reply = rw (sent.method, sent.target, sent.body) (plans.reply held body told);
        step = rw (sent.method, sent.target, sent.body) (plans.step held body);
      };
      bare = rw (sent.method, sent.target, sent.body) (plans.bare held body);
      response = rw (sent.method, sent.target, sent.ends) made;
      media = rw (sent.method, sent.target, sent.body) plans.media_is;
    }

-- its step is that of the request's parts, whatever a probe told
pub returns-clause-step : goal.returns-clause-step
returns-clause-step c = λ held r sent.
    let plans = rw (c.requires.asked, c.requires.routes) at c.in_ok-planned.ensures in
    rw (sent.method, sent.target, sent.body) (plans.step held c.args.request.now.body.now)
