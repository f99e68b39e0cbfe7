use Rattle.connection_loop.specs.Loops.{HasTurned}
use Rattle.connection_loop.proofs.connection.serve_connection.Given as goal

-- The connection that was under way at the start goes on.
abbrev pub invariant-loop : goal.invariant-loop
invariant-loop g l =
    HasTurned (g.V.Service.machine (g.V.Service.setting l.initial.service)) (g.V.Service.setting l.initial.service) (g.V.Service.setting l.service)
    (g.V.Service.ready l.service) (g.X.Disk.device l.initial.site) (g.X.Disk.device l.site) (g.C.Clock.tells l.initial.clock) (g.C.Clock.tells l.clock)
    (g.C.Clock.given l.initial.clock) (g.C.Clock.given l.clock) (g.V.Service.unread l.initial.service) (g.V.Service.unread l.service)
    (g.V.Service.taken l.initial.service) (g.V.Service.taken l.service)
    (g.V.Service.keeps (g.V.Service.store l.initial.service) (g.X.Disk.device l.initial.site))
    (g.V.Service.keeps (g.V.Service.store l.service) (g.X.Disk.device l.site)) l.initial.tally l.tally (g.V.Service.size l.initial.service)
    (g.V.Service.size l.service) (g.V.Service.turns l.service) l.counter
