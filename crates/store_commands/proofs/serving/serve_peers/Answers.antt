use Rattle.std.proofs.Common.{arith}
use Rattle.store_commands.proofs.RunningLemmas.{serve_refused}
use Rattle.store_commands.proofs.ServedLemmas.{serve_ends}
use Rattle.store_commands.proofs.serving.serve_peers.Goals as goal

-- The store couldn't be opened.
pub returns-in-Err-clause-ends : goal.returns-in-Err-clause-ends
returns-in-Err-clause-ends g c =
    rw c.opening_outcome.ensures
    (serve_refused c.args.base (g.X.Disk.device c.args.site.now) (g.X.Disk.device c.open.new.disk) _ _ c.in-Err.fault _
    c.damaged_images_stand_for_none.ensures.none (g.met.X.Disk.sound c.args.site.now) c.in-Err.ensures.reads c.in-Err.ensures.answer c.args.connections)

-- Connections were served.
pub returns-clause-ends : goal.returns-clause-ends
returns-clause-ends g c =
    rw c.serve_outcome.ensures
    (serve_ends c.args.base (g.X.Disk.device c.args.site.now) (g.X.Disk.device c.open.new.disk) (g.X.Disk.device c.serve-end.new.site)
    (g.C.Clock.tells c.args.clock.now) (g.C.Clock.tells c.serve-end.new.clock) (g.C.Clock.given c.args.clock.now)
    (g.C.Clock.given c.serve-end.new.clock) c.in-Ok.service.store.kept _
    c.serve-end.new.tally c.runs_keep_objects.ensures (g.met.X.Disk.sound c.args.site.now) (g.met.X.Disk.sound c.serve-end.new.site) c.in-Ok.ensures.reads
    c.serve-end.ensures.calls.same c.in-Ok.ensures.answer
    (λ from start. c.in-Ok.ensures.keeps start.tells.shows start.settled from start.stands) _
    (omega (arith, c.requires.few)) c.serve-end.ensures.clock c.serve-end.result
    c.args.connections c.serve-end.ensures.calls
    (λ all b between. (rw c.in-Ok.ensures.afresh.1 at c.serve-end.ensures.ended) all b (rw c.new-tally.ensures between)))
