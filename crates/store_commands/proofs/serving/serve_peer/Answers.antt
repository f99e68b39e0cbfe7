use Rattle.std.proofs.Common.{arith}
use Rattle.connection_loop.specs.declared.connection.Next.TheVariants.{Ended, NoMore, Unlinked}
use Rattle.store_commands.proofs.RunningLemmas.{replay_refused}
use Rattle.store_commands.proofs.ServedLemmas.{replay_ends}
use Rattle.store_commands.proofs.serving.serve_peer.Goals as goal

-- The store couldn't be opened.
pub returns-in-Err-clause-ends : goal.returns-in-Err-clause-ends
returns-in-Err-clause-ends g c =
    rw c.opening_outcome.ensures
    (replay_refused c.args.base (g.X.Disk.device c.args.site.now) (g.X.Disk.device c.open.new.disk) _ _ c.in-Err.fault _
    c.damaged_images_stand_for_none.ensures.none (g.met.X.Disk.sound c.args.site.now) c.in-Err.ensures.reads c.in-Err.ensures.answer)

-- A connection was served to its end.
pub returns-in-Ended-clause-ends : goal.returns-in-Ended-clause-ends
returns-in-Ended-clause-ends g c =
    rw c.replay_outcome.ensures
    (replay_ends c.args.base (g.X.Disk.device c.args.site.now) (g.X.Disk.device c.open.new.disk) (g.X.Disk.device c.serve_next-next.new.site)
    (g.C.Clock.tells c.args.clock.now) (g.C.Clock.tells c.serve_next-next.new.clock) (g.C.Clock.given c.args.clock.now)
    (g.C.Clock.given c.serve_next-next.new.clock) c.in-Ok.service.store.kept _
    c.serve_next-next.new.tally c.runs_keep_objects.ensures (g.met.X.Disk.sound c.args.site.now)
    (g.met.X.Disk.sound c.serve_next-next.new.site) c.in-Ok.ensures.reads
    c.in-Ended.ensures.calls.same c.in-Ok.ensures.answer
    (λ from start. c.in-Ok.ensures.keeps start.tells.shows start.settled from start.stands) _ (omega arith)
    c.serve_next-next.ensures.clock _ (Ended c.in-Ended.ending)
    c.in-Ended.ensures.calls
    (λ all b sessions between. (rw c.in-Ok.ensures.afresh.1 at c.in-Ended.ensures.leads) all b sessions (rw c.new-tally.ensures between)))

-- No peer came.
pub returns-in-NoMore-clause-ends : goal.returns-in-NoMore-clause-ends
returns-in-NoMore-clause-ends g c =
    rw c.served_with.ensures
    (replay_ends c.args.base (g.X.Disk.device c.args.site.now) (g.X.Disk.device c.open.new.disk) (g.X.Disk.device c.serve_next-next.new.site)
    (g.C.Clock.tells c.args.clock.now) (g.C.Clock.tells c.serve_next-next.new.clock) (g.C.Clock.given c.args.clock.now)
    (g.C.Clock.given c.serve_next-next.new.clock) c.in-Ok.service.store.kept _
    c.serve_next-next.new.tally c.runs_keep_objects.ensures (g.met.X.Disk.sound c.args.site.now)
    (g.met.X.Disk.sound c.serve_next-next.new.site) c.in-Ok.ensures.reads
    c.in-NoMore.ensures.calls.same c.in-Ok.ensures.answer
    (λ from start. c.in-Ok.ensures.keeps start.tells.shows start.settled from start.stands) _ (omega arith)
    c.serve_next-next.ensures.clock _ NoMore c.in-NoMore.ensures.calls
    (λ all b sessions between. (rw c.in-Ok.ensures.afresh.1 at c.in-NoMore.ensures.leads) all b sessions (rw c.new-tally.ensures between)))

-- Waiting for one failed.
pub returns-in-Unlinked-clause-ends : goal.returns-in-Unlinked-clause-ends
returns-in-Unlinked-clause-ends g c =
    (replay_ends c.args.base (g.X.Disk.device c.args.site.now) (g.X.Disk.device c.open.new.disk) (g.X.Disk.device c.serve_next-next.new.site)
    (g.C.Clock.tells c.args.clock.now) (g.C.Clock.tells c.serve_next-next.new.clock) (g.C.Clock.given c.args.clock.now)
    (g.C.Clock.given c.serve_next-next.new.clock) c.in-Ok.service.store.kept _
    c.serve_next-next.new.tally c.runs_keep_objects.ensures (g.met.X.Disk.sound c.args.site.now)
    (g.met.X.Disk.sound c.serve_next-next.new.site) c.in-Ok.ensures.reads
    c.in-Unlinked.ensures.calls.same c.in-Ok.ensures.answer
    (λ from start. c.in-Ok.ensures.keeps start.tells.shows start.settled from start.stands)
    _ (omega arith) c.serve_next-next.ensures.clock _ Unlinked c.in-Unlinked.ensures.calls
    (λ all b sessions between. (rw c.in-Ok.ensures.afresh.1 at c.in-Unlinked.ensures.leads) all b sessions (rw c.new-tally.ensures between)))
