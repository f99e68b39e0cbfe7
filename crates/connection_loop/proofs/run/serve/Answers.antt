use Rattle.std.proofs.Common.{refl, sym, ◌∙◌, arith}
use Rattle.run_history.proofs.Ends.{unfailed}
use Rattle.connection_loop.proofs.Between.{counted_later, ended_stopped, served_more}
use Rattle.connection_loop.proofs.Turning.{clock_most, clock_twice, tells_before, tells_later}
use Rattle.connection_loop.proofs.run.serve.Goals as goal

-- No more connections came.
pub returns-in-NoMore-clause-ended : goal.returns-in-NoMore-clause-ended
returns-in-NoMore-clause-ended g c = λ all b between.
    let so_far =
    c.loop.invariant.reached (tells_before _ _ _ _ _ _ c.in-NoMore.ensures.clock all) b
    between in
    let leads =
    (rw c.loop.invariant.setting_is at c.in-NoMore.ensures.leads) (tells_later _ _ _ c.loop.invariant.calls.same all) b so_far.sessions so_far.between in
    let rose =
    rw ((c.loop.invariant.calls.closings all.tells).stays refl) at leads.1 in
    record {
      sessions = so_far.sessions;
      served = leads.0.served;
      ends = (omega (arith, so_far.count, c.loop-test.true), unfailed so_far.sessions leads.0.unstopped, rose);
      counted = counted_later _ _ _ so_far.sessions so_far.counted c.loop.invariant.calls.link_faults
          (omega (arith, c.in-NoMore.ensures.calls.link_faults));
    }

-- Waiting for one failed.
pub returns-in-Unlinked-clause-ended : goal.returns-in-Unlinked-clause-ended
returns-in-Unlinked-clause-ended g c = λ all b between.
    let so_far =
    c.loop.invariant.reached (tells_before _ _ _ _ _ _ c.in-Unlinked.ensures.clock all) b between in
    let leads =
    (rw c.loop.invariant.setting_is at c.in-Unlinked.ensures.leads) (tells_later _ _ _ c.loop.invariant.calls.same all) b so_far.sessions so_far.between in
    record {
      sessions = so_far.sessions;
      served = leads.served;
      ends = (omega (arith, so_far.count, c.loop-test.true), unfailed so_far.sessions leads.unstopped);
      counted = counted_later _ _ _ so_far.sessions so_far.counted c.loop.invariant.calls.link_faults c.in-Unlinked.ensures.calls.link_faults.0;
    }

-- The disk failed in the last one.
pub returns-then-is_stopped-clause-ended : goal.returns-then-is_stopped-clause-ended
returns-then-is_stopped-clause-ended g c = λ all b between.
    let so_far =
    c.loop.invariant.reached (tells_before _ _ _ _ _ _ c.in-Ended.ensures.clock all) b
    between in
    let leads =
    (rw c.loop.invariant.setting_is at c.in-Ended.ensures.leads) (tells_later _ _ _ c.loop.invariant.calls.same all) b so_far.sessions so_far.between in
    ended_stopped (g.V.Service.machine (g.V.Service.setting c.args.service.now)) b
    (g.X.Disk.device c.args.site.now) (g.X.Disk.device c.loop.site) (g.X.Disk.device c.serve_next.new.site)
    _ _ so_far.sessions _ c.in-Ended.ending c.loop.counter c.args.connections leads (sym c.is_stopped.ensures ∙ c.if-is_stopped.true) so_far.count
    (omega (arith, c.loop-test.true)) so_far.counted c.loop.invariant.calls.link_faults c.in-Ended.ensures.calls.link_faults

pub loop-preserved : goal.loop-preserved
loop-preserved g c =
    let next = c.in-Ended.ensures in
    served_more g.V.Service.machine (g.V.Service.setting c.args.service.now) (g.V.Service.setting c.loop.service) _
    (g.X.Disk.device c.args.site.now) (g.X.Disk.device c.loop.site) (g.X.Disk.device c.serve_next.new.site)
    _ _ _ _ _ _ _ _ _ _ _ _ _ _ _ c.loop.counter c.in-Ended.ending
    c.loop.invariant next.calls (sym c.is_stopped.ensures ∙ c.if-is_stopped.false) next.size next.setting next.clock next.answers next.leads

-- There were as many as were asked for.
pub returns-clause-ended : goal.returns-clause-ended
returns-clause-ended g c = λ all b between.
    let so_far = c.loop.invariant.reached all b between in
    record {
      sessions = so_far.sessions;
      served = so_far.between.served;
      ends = (omega (arith, so_far.count, c.loop-test.false, c.loop.auto.counter-end), unfailed so_far.sessions so_far.between.unstopped);
      counted = so_far.counted;
    }

-- The clock was read for each connection so far, and for the last one.
pub returns-in-NoMore-clause-clock : goal.returns-in-NoMore-clause-clock
returns-in-NoMore-clause-clock g c =
    clock_most _ _ _ _ _ _ (omega (arith, c.loop-test.true)) (clock_twice _ _ _ _ _ _ _ _ c.loop.invariant.clock c.in-NoMore.ensures.clock)

pub returns-in-Unlinked-clause-clock : goal.returns-in-Unlinked-clause-clock
returns-in-Unlinked-clause-clock g c =
    clock_most _ _ _ _ _ _ (omega (arith, c.loop-test.true)) (clock_twice _ _ _ _ _ _ _ _ c.loop.invariant.clock c.in-Unlinked.ensures.clock)

pub returns-then-is_stopped-clause-clock : goal.returns-then-is_stopped-clause-clock
returns-then-is_stopped-clause-clock g c =
    clock_most _ _ _ _ _ _ (omega (arith, c.loop-test.true)) (clock_twice _ _ _ _ _ _ _ _ c.loop.invariant.clock c.in-Ended.ensures.clock)

pub returns-clause-clock : goal.returns-clause-clock
returns-clause-clock g c =
    clock_most _ _ _ _ _ _ (omega (arith, c.loop-test.false, c.loop.auto.counter-end)) c.loop.invariant.clock
