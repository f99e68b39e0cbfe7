use Rattle.std.proofs.Common.{false, ◌∙◌}
use Rattle.tams_service.proofs.Sayings.{answers_alone, answers_part, answers_twice, says_once}
use Rattle.tams_service.proofs.saying.say_answer.Goals as goal

-- the response wasn't said whole, behind which no more is said
pub returns-in-Err-clause-says : goal.returns-in-Err-clause-says
returns-in-Err-clause-says g c = λ shows. answers_part _ _ _ _
    (says_once _ _ _ _ c.in-Err.ensures.call.time c.in-Err.ensures.said c.in-Err.ensures.call.handed)

-- it was, and nothing follows it
pub returns-in-None-clause-says : goal.returns-in-None-clause-says
returns-in-None-clause-says g c = λ shows.
    let response = c.in-Ok.ensures in
    rw c.in-None.is (answers_alone _ _ _ (says_once _ _ _ _ response.call.time response.said response.call.handed))

-- what the device shows is the same behind a saying
pub returns-in-Some-clause-says : goal.returns-in-Some-clause-says
returns-in-Some-clause-says g c = λ shows.
    let response = c.in-Ok.ensures in
    let object = c.say_object.ensures.says (response.call.same.shows ∙ shows) in
    rw c.in-Some.is
    (answers_twice _ _ _ _ _ _ _ response.call.same (says_once _ _ _ _ response.call.time response.said response.call.handed)
    (rw response.call.seen at object))
