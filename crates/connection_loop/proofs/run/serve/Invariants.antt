use Rattle.connection_loop.specs.Loops.{HasServedSo}
use Rattle.connection_loop.proofs.run.serve.Given as goal

-- Each connection so far has ended, and the run goes on.
abbrev pub invariant-loop : goal.invariant-loop
invariant-loop g l =
    HasServedSo (g.V.Service.machine (g.V.Service.setting l.initial.service)) (g.V.Service.setting l.initial.service) (g.V.Service.setting l.service)
    (g.X.Disk.device l.initial.site) (g.X.Disk.device l.site) (g.C.Clock.tells l.initial.clock) (g.C.Clock.tells l.clock)
    (g.C.Clock.given l.initial.clock) (g.C.Clock.given l.clock)
    (g.V.Service.keeps (g.V.Service.store l.initial.service) (g.X.Disk.device l.initial.site))
    (g.V.Service.keeps (g.V.Service.store l.service) (g.X.Disk.device l.site)) l.initial.tally l.tally (g.V.Service.size l.initial.service)
    (g.V.Service.size l.service) l.counter
