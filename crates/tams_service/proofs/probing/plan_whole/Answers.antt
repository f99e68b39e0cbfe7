use Rattle.tams_service.proofs.probing.plan_whole.Goals as goal

-- the probe told what the bytes are
pub returns-clause-answers : goal.returns-clause-answers
returns-clause-answers g c = λ shows held r agrees sent.
    (rw c.in_ok-probe.ensures.kept at c.in_ok-answer.ensures.answers) held r (c.in_ok-probe.ensures.tells shows held agrees) sent
