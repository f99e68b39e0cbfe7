use Rattle.request_hearing.specs.Turning.{HasHeard}
use Rattle.request_hearing.proofs.listener.Hearing.hear_request.Given as goal

-- What the turns so far heard and said.
abbrev pub invariant-loop : goal.invariant-loop
invariant-loop g l =
    HasHeard l.initial.self l.self (g.X.Disk.device l.initial.site) (g.X.Disk.device l.site) l.said l.counter
