use Rattle.store_commands.specs.Turning.{WorksOn}
use Rattle.store_commands.proofs.working.make_turns.Given as goal

-- Each turn so far changed something.
abbrev pub invariant-loop : goal.invariant-loop
invariant-loop g l =
    WorksOn (g.D.Disk.device l.initial.disk) (g.D.Disk.device l.disk) (g.C.Clock.tells l.initial.clock) (g.C.Clock.tells l.clock)
    (g.C.Clock.given l.initial.clock) (g.C.Clock.given l.clock) l.initial.store l.store l.turns l.counter
