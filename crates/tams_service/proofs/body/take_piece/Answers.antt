use Rattle.tams_service.proofs.Keeps.{hearing_keeps, keeps_twice}
use Rattle.tams_service.proofs.Taken.{takes_ended, takes_next, takes_stopped, takes_unheard}
use Rattle.tams_service.proofs.body.take_piece.Goals as goal

pub returns-in-Ok-clause-takes : goal.returns-in-Ok-clause-takes
returns-in-Ok-clause-takes g c =
    takes_next _ _ _ _ _ _ _ _ _ _ c.in-Piece.ensures c.requires.left c.in-Ok.ensures.hands c.in-Ok.ensures.calls.link c.in-Ok.ensures.handed

pub returns-in-Err-clause-takes : goal.returns-in-Err-clause-takes
returns-in-Err-clause-takes g c = takes_stopped _ _ _ _ _ _ _ _ _ _ c.in-Piece.ensures c.requires.left c.in-Err.ensures.calls.link

pub returns-in-Ended-clause-takes : goal.returns-in-Ended-clause-takes
returns-in-Ended-clause-takes g c = takes_ended _ _ _ _ _ _ _ _ c.in-Ended.ensures c.requires.left

pub returns-in-Unheard-clause-takes : goal.returns-in-Unheard-clause-takes
returns-in-Unheard-clause-takes g c = takes_unheard _ _ _ _ _ _ _ _ c.in-Unheard.ensures c.requires.left

pub returns-in-Ok-clause-keeps : goal.returns-in-Ok-clause-keeps
returns-in-Ok-clause-keeps g c = λ held agrees.
    let first = hearing_keeps _ _ _ _ _ _ _ c.take_body.ensures.leaves agrees in
    keeps_twice _ held _ _ _ first (c.in-Ok.ensures.keeps held first.agrees)

pub returns-in-Err-clause-keeps : goal.returns-in-Err-clause-keeps
returns-in-Err-clause-keeps g c = λ held agrees.
    let first = hearing_keeps _ _ _ _ _ _ _ c.take_body.ensures.leaves agrees in
    keeps_twice _ held _ _ _ first (c.in-Err.ensures.keeps held first.agrees)

pub returns-in-Ended-clause-keeps : goal.returns-in-Ended-clause-keeps
returns-in-Ended-clause-keeps g c = λ held agrees. hearing_keeps _ _ _ _ _ _ _ c.take_body.ensures.leaves agrees

pub returns-in-Unheard-clause-keeps : goal.returns-in-Unheard-clause-keeps
returns-in-Unheard-clause-keeps g c = λ held agrees. hearing_keeps _ _ _ _ _ _ _ c.take_body.ensures.leaves agrees
