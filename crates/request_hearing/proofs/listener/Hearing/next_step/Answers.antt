use Rattle.request_hearing.proofs.TurnLemmas.{due_step, steps_turn}
use Rattle.request_hearing.proofs.listener.Hearing.next_step.Goals as goal

-- Whether it is due is told by what the feed gives.
pub returns-clause-due : goal.returns-clause-due
returns-clause-due c =
    due_step c.args.self.now c.next_request-step.new.self c.next_request-step.result c.is_due-due.result
    (steps_turn c.args.self.now c.next_request-step.new.self c.next_request-step.result c.requires.may
    (rw c.self.view_is at c.next_request-step.ensures)) c.is_due-due.ensures
