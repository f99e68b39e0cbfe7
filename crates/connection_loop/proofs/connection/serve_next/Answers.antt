use Rattle.std.proofs.Common.{refl, arith}
use Rattle.run_history.specs.Traces.{start_of}
use Rattle.run_history.specs.Parts.{after_sessions}
use Rattle.run_history.proofs.Going.{goes_first}
use Rattle.connection_loop.proofs.Between.{between_quiet, ended_calls, ends_closed, no_more_calls, same_connected, same_unchanged, unlinked_calls}
use Rattle.connection_loop.proofs.Turning.{clock_most, clock_none, tells_later}
use Rattle.connection_loop.proofs.connection.serve_next.Goals as goal

pub returns-in-Ok-true-clause-calls : goal.returns-in-Ok-true-clause-calls
returns-in-Ok-true-clause-calls g c =
    let call = rw c.in-Ok-true.field-0-test at c.in-Ok-true.ensures.call in
    let next = rw c.in-Ok-true.field-0-test at c.in-Ok-true.ensures.next in
    let peers = c.in-Ok-true.ensures.peers in
    ended_calls c.serve_connection-ending.result _ _ _ _ (g.X.Disk.device c.args.site.now) (g.X.Disk.device c.next_peer.new.self)
    (g.X.Disk.device c.serve_connection-ending.new.site) (g.X.Disk.device c.close_peer.new.self) call peers next.closed next.dials
    c.serve_connection-ending.ensures.calls c.close_peer.ensures.call c.close_peer.ensures.closed

-- A peer came, and was served to its end.
pub returns-in-Ok-true-clause-leads : goal.returns-in-Ok-true-clause-leads
returns-in-Ok-true-clause-leads g c = λ all b sessions between.
    let call = rw c.in-Ok-true.field-0-test at c.in-Ok-true.ensures.call in
    let next = rw c.in-Ok-true.field-0-test at c.in-Ok-true.ensures.next in
    let came = g.X.Disk.device c.next_peer.new.self in
    let served = g.X.Disk.device c.serve_connection-ending.new.site in
    let closed = g.X.Disk.device c.close_peer.new.self in
    let machine = g.V.Service.machine (g.V.Service.setting c.args.service.now) in
    let state = (after_sessions machine (start_of b.state) sessions).state in
    let kept = g.V.Service.kept _ _ came state between.kept (same_connected _ came call.time) in
    let begins =
    goes_first machine b (g.X.Disk.device c.args.site.now) came _ sessions _ between.served between.unstopped call.time
    (next.connections all.tells) call.handed in
    let ended =
    (rw c.begin.ensures.setting at c.serve_connection-ending.ensures.served) (tells_later _ _ _ call.same all) b sessions state (rw c.begin.ensures.store kept)
    (rw (c.begin.ensures.unread, c.begin.ensures.taken) begins) in
    ends_closed machine b served closed _ _ _ sessions _ _ ended c.close_peer.ensures.call.time
    c.close_peer.ensures.closed.connections c.close_peer.ensures.call.handed
    (λ s keeps. g.V.Service.kept _ served closed s keeps (same_unchanged served closed c.close_peer.ensures.call.time))

pub returns-in-Ok-false-clause-calls : goal.returns-in-Ok-false-clause-calls
returns-in-Ok-false-clause-calls g c =
    let call = rw c.in-Ok-false.field-0-test at c.in-Ok-false.ensures.call in
    let next = rw c.in-Ok-false.field-0-test at c.in-Ok-false.ensures.next in
    no_more_calls _ _ (g.X.Disk.device c.args.site.now) (g.X.Disk.device c.next_peer.new.self) call c.in-Ok-false.ensures.peers next.closed next.under_way
    next.dials

pub returns-in-Err-clause-calls : goal.returns-in-Err-clause-calls
returns-in-Err-clause-calls g c =
    unlinked_calls _ _ (g.X.Disk.device c.args.site.now) (g.X.Disk.device c.next_peer.new.self) c.in-Err.ensures.call c.in-Err.ensures.peers
    c.in-Err.ensures.next.closed c.in-Err.ensures.next.under_way c.in-Err.ensures.next.dials

-- No peer came.
pub returns-in-Ok-false-clause-leads : goal.returns-in-Ok-false-clause-leads
returns-in-Ok-false-clause-leads g c = λ all b sessions between.
    let call = rw c.in-Ok-false.field-0-test at c.in-Ok-false.ensures.call in
    let next = rw c.in-Ok-false.field-0-test at c.in-Ok-false.ensures.next in
    let old = g.X.Disk.device c.args.site.now in
    let new = g.X.Disk.device c.next_peer.new.self in (
      between_quiet (g.V.Service.machine (g.V.Service.setting c.args.service.now)) b old new _ _ _ sessions _ between call.time
          (next.connections all.tells) call.handed
          (λ s keeps. g.V.Service.kept _ old new s keeps (same_unchanged old new call.time)),
      (next.closed all.tells).rises refl,
    )

-- Waiting for one failed.
pub returns-in-Err-clause-leads : goal.returns-in-Err-clause-leads
returns-in-Err-clause-leads g c = λ all b sessions between.
    let call = c.in-Err.ensures.call in
    let old = g.X.Disk.device c.args.site.now in
    let new = g.X.Disk.device c.next_peer.new.self in
    between_quiet (g.V.Service.machine (g.V.Service.setting c.args.service.now)) b old new _ _ _ sessions _ between call.time
    (c.in-Err.ensures.next.connections all.tells) call.handed
    (λ s keeps. g.V.Service.kept _ old new s keeps (same_unchanged old new call.time))

-- The clock was not read where no connection came.
pub returns-in-Ok-false-clause-clock : goal.returns-in-Ok-false-clause-clock
returns-in-Ok-false-clause-clock g c = clock_most 0 _ _ _ _ _ (omega arith) (clock_none _ _)

pub returns-in-Err-clause-clock : goal.returns-in-Err-clause-clock
returns-in-Err-clause-clock g c = clock_most 0 _ _ _ _ _ (omega arith) (clock_none _ _)
