use Rattle.std.proofs.Common.{subst}
use Rattle.std.proofs.lemmas.Result.{err_from_is_err_and}
use Rattle.store_delivery.specs.Within.Due.{IsNextDue}
use Rattle.store_delivery.proofs.Rounds.{gone_nearer, kept_nearer, round_fails, round_full, round_gone, round_kept, round_starved, rounds_begin, rounds_end}
use Rattle.store_delivery.proofs.delivering.deliver_events.Goals as goal
use Rattle.store_delivery.proofs.delivering.deliver_events.Goals.{in-Gone, in-Kept}

pub loop-due-init : goal.loop-due-init
loop-due-init g c =
    rounds_begin (g.X.Disk.device c.args.site.now) (g.C.Clock.tells c.args.clock.now) (g.C.Clock.given c.args.clock.now) c.args.store.now c.keeps_good.ensures
    c.requires.unspent c.requires.idle c.requires.device

-- there is no memory to look what is due
pub returns-in_err-due-clause-delivered : goal.returns-in_err-due-clause-delivered
returns-in_err-due-clause-delivered g c = λ all few b begins.
    let p = err_from_is_err_and c.from_residual.result c.from_residual.ensures.1 in
    rw (p.1, p.2)
    (round_starved (g.X.Disk.device c.args.site.now) (g.X.Disk.device c.loop-due.site) (g.C.Clock.tells c.args.clock.now) (g.C.Clock.tells c.loop-due.clock)
    (g.C.Clock.given c.args.clock.now) (g.C.Clock.given c.loop-due.clock) c.args.store.now c.loop-due.store c.loop-due.after c.loop-due.delivered
    c.loop-due.invariant
    (g.met.X.Disk.sound c.loop-due.site) all few b begins)

-- nothing is due any more
pub returns-in-None-clause-delivered : goal.returns-in-None-clause-delivered
returns-in-None-clause-delivered g c = λ all few b begins.
    rounds_end (g.X.Disk.device c.args.site.now) (g.X.Disk.device c.loop-due.site) (g.C.Clock.tells c.args.clock.now) (g.C.Clock.tells c.loop-due.clock)
    (g.C.Clock.given c.args.clock.now) (g.C.Clock.given c.loop-due.clock) c.args.store.now c.loop-due.store c.loop-due.after c.loop-due.delivered
    c.loop-due.invariant
    (g.met.X.Disk.sound c.loop-due.site) (subst (λ o. IsNextDue c.loop-due.store.kept.library c.loop-due.after o) c.in-None.is c.in_ok-due.ensures) all few b
    begins

-- an attempt failed
pub returns-in_err-send_due-clause-delivered : goal.returns-in_err-send_due-clause-delivered
returns-in_err-send_due-clause-delivered g c = λ all few b begins.
    let p = err_from_is_err_and c.from_residual-in_err-send_due.result c.from_residual-in_err-send_due.ensures.1 in
    let did = c.in_err-send_due.ensures in
    let is = subst (λ o. IsNextDue c.loop-due.store.kept.library c.loop-due.after o) c.in-Some.is c.in_ok-due.ensures in
    rw (p.1, p.2)
    (round_fails (g.X.Disk.device c.args.site.now) (g.X.Disk.device c.loop-due.site) (g.C.Clock.tells c.args.clock.now) (g.C.Clock.tells c.loop-due.clock)
    (g.C.Clock.given c.args.clock.now) (g.C.Clock.given c.loop-due.clock) c.args.store.now c.loop-due.store c.loop-due.after c.loop-due.delivered
    c.loop-due.invariant
    (g.X.Disk.device c.send_due.new.site) c.send_due.new.store (g.C.Clock.tells c.send_due.new.clock) (g.C.Clock.given c.send_due.new.clock) c.in-Some.due is
    did.same did.peers did.under_way
    c.in_err-send_due.field-0.0 did.sent all few b begins)

-- the change of an event has no room
pub returns-in-Full-clause-delivered : goal.returns-in-Full-clause-delivered
returns-in-Full-clause-delivered g c = λ all few b begins.
    let did = c.in_ok-send_due.ensures in
    let is = subst (λ o. IsNextDue c.loop-due.store.kept.library c.loop-due.after o) c.in-Some.is c.in_ok-due.ensures in
    round_full (g.X.Disk.device c.args.site.now) (g.X.Disk.device c.loop-due.site) (g.C.Clock.tells c.args.clock.now) (g.C.Clock.tells c.loop-due.clock)
    (g.C.Clock.given c.args.clock.now) (g.C.Clock.given c.loop-due.clock) c.args.store.now c.loop-due.store c.loop-due.after c.loop-due.delivered
    c.loop-due.invariant
    (g.X.Disk.device c.send_due.new.site) c.send_due.new.store (g.C.Clock.tells c.send_due.new.clock) (g.C.Clock.given c.send_due.new.clock) c.in-Some.due is
    did.same did.peers did.under_way
    (rw c.in-Full.is at did.sent) all few b begins

pub loop-due-smaller-after-branch-4 : goal.loop-due-smaller-after-branch-4
loop-due-smaller-after-branch-4 g c =
    let did = c.in_ok-send_due.ensures in
    let is = subst (λ o. IsNextDue c.loop-due.store.kept.library c.loop-due.after o) c.in-Some.is c.in_ok-due.ensures in
    elim c.match-branch-4.branch [
      | in-Gone w ↦
          rw w.after-is (gone_nearer (g.X.Disk.device c.args.site.now) (g.X.Disk.device c.loop-due.site) (g.C.Clock.tells c.args.clock.now) (g.C.Clock.tells c.loop-due.clock)
          (g.C.Clock.given c.args.clock.now) (g.C.Clock.given c.loop-due.clock) c.args.store.now c.loop-due.store c.loop-due.after c.loop-due.delivered
          c.loop-due.invariant
          (g.X.Disk.device c.send_due.new.site) c.send_due.new.store (g.C.Clock.tells c.send_due.new.clock) (g.C.Clock.given c.send_due.new.clock) c.in-Some.due is
          did.same did.peers did.under_way (rw w.in-Gone.is at did.store))
      | in-Kept w ↦
          rw w.after-is (kept_nearer (g.X.Disk.device c.args.site.now) (g.X.Disk.device c.loop-due.site) (g.C.Clock.tells c.args.clock.now) (g.C.Clock.tells c.loop-due.clock)
          (g.C.Clock.given c.args.clock.now) (g.C.Clock.given c.loop-due.clock) c.args.store.now c.loop-due.store c.loop-due.after c.loop-due.delivered
          c.loop-due.invariant
          (g.X.Disk.device c.send_due.new.site) c.send_due.new.store (g.C.Clock.tells c.send_due.new.clock) (g.C.Clock.given c.send_due.new.clock) c.in-Some.due is
          did.same did.peers did.under_way (rw w.in-Kept.is at did.store))
    ]

pub loop-due-preserved-after-branch-4 : goal.loop-due-preserved-after-branch-4
loop-due-preserved-after-branch-4 g c =
    let did = c.in_ok-send_due.ensures in
    let is = subst (λ o. IsNextDue c.loop-due.store.kept.library c.loop-due.after o) c.in-Some.is c.in_ok-due.ensures in
    elim c.match-branch-4.branch [
      | in-Gone w ↦
          rw (w.delivered-is, w.after-is) (round_gone (g.X.Disk.device c.args.site.now) (g.X.Disk.device c.loop-due.site) (g.C.Clock.tells c.args.clock.now) (g.C.Clock.tells c.loop-due.clock)
          (g.C.Clock.given c.args.clock.now) (g.C.Clock.given c.loop-due.clock) c.args.store.now c.loop-due.store c.loop-due.after c.loop-due.delivered
          c.loop-due.invariant
          (g.X.Disk.device c.send_due.new.site) c.send_due.new.store (g.C.Clock.tells c.send_due.new.clock) (g.C.Clock.given c.send_due.new.clock) c.in-Some.due is
          did.same did.peers did.under_way did.disk (rw w.in-Gone.is at did.store) (rw w.in-Gone.is at did.sent))
      | in-Kept w ↦
          rw (w.delivered-is, w.after-is) (round_kept (g.X.Disk.device c.args.site.now) (g.X.Disk.device c.loop-due.site) (g.C.Clock.tells c.args.clock.now) (g.C.Clock.tells c.loop-due.clock)
          (g.C.Clock.given c.args.clock.now) (g.C.Clock.given c.loop-due.clock) c.args.store.now c.loop-due.store c.loop-due.after c.loop-due.delivered
          c.loop-due.invariant
          (g.X.Disk.device c.send_due.new.site) c.send_due.new.store (g.C.Clock.tells c.send_due.new.clock) (g.C.Clock.given c.send_due.new.clock) c.in-Some.due is
          did.same did.peers did.under_way did.disk (rw w.in-Kept.is at did.store) (rw w.in-Kept.is at did.sent))
    ]

pub loop-due-smaller : goal.loop-due-smaller
loop-due-smaller g c =
    let did = c.in_ok-send_due.ensures in
    let is = subst (λ o. IsNextDue c.loop-due.store.kept.library c.loop-due.after o) c.in-Some.is c.in_ok-due.ensures in
    elim c.match-branch-4.branch [
      | in-Gone w ↦
          rw w.after-is (gone_nearer (g.X.Disk.device c.args.site.now) (g.X.Disk.device c.loop-due.site) (g.C.Clock.tells c.args.clock.now) (g.C.Clock.tells c.loop-due.clock)
          (g.C.Clock.given c.args.clock.now) (g.C.Clock.given c.loop-due.clock) c.args.store.now c.loop-due.store c.loop-due.after c.loop-due.delivered
          c.loop-due.invariant
          (g.X.Disk.device c.send_due.new.site) c.send_due.new.store (g.C.Clock.tells c.send_due.new.clock) (g.C.Clock.given c.send_due.new.clock) c.in-Some.due is
          did.same did.peers did.under_way (rw w.in-Gone.is at did.store))
      | in-Kept w ↦
          rw w.after-is (kept_nearer (g.X.Disk.device c.args.site.now) (g.X.Disk.device c.loop-due.site) (g.C.Clock.tells c.args.clock.now) (g.C.Clock.tells c.loop-due.clock)
          (g.C.Clock.given c.args.clock.now) (g.C.Clock.given c.loop-due.clock) c.args.store.now c.loop-due.store c.loop-due.after c.loop-due.delivered
          c.loop-due.invariant
          (g.X.Disk.device c.send_due.new.site) c.send_due.new.store (g.C.Clock.tells c.send_due.new.clock) (g.C.Clock.given c.send_due.new.clock) c.in-Some.due is
          did.same did.peers did.under_way (rw w.in-Kept.is at did.store))
    ]

pub loop-due-preserved : goal.loop-due-preserved
loop-due-preserved g c =
    let did = c.in_ok-send_due.ensures in
    let is = subst (λ o. IsNextDue c.loop-due.store.kept.library c.loop-due.after o) c.in-Some.is c.in_ok-due.ensures in
    elim c.match-branch-4.branch [
      | in-Gone w ↦
          rw (w.delivered-is, w.after-is) (round_gone (g.X.Disk.device c.args.site.now) (g.X.Disk.device c.loop-due.site) (g.C.Clock.tells c.args.clock.now) (g.C.Clock.tells c.loop-due.clock)
          (g.C.Clock.given c.args.clock.now) (g.C.Clock.given c.loop-due.clock) c.args.store.now c.loop-due.store c.loop-due.after c.loop-due.delivered
          c.loop-due.invariant
          (g.X.Disk.device c.send_due.new.site) c.send_due.new.store (g.C.Clock.tells c.send_due.new.clock) (g.C.Clock.given c.send_due.new.clock) c.in-Some.due is
          did.same did.peers did.under_way did.disk (rw w.in-Gone.is at did.store) (rw w.in-Gone.is at did.sent))
      | in-Kept w ↦
          rw (w.delivered-is, w.after-is) (round_kept (g.X.Disk.device c.args.site.now) (g.X.Disk.device c.loop-due.site) (g.C.Clock.tells c.args.clock.now) (g.C.Clock.tells c.loop-due.clock)
          (g.C.Clock.given c.args.clock.now) (g.C.Clock.given c.loop-due.clock) c.args.store.now c.loop-due.store c.loop-due.after c.loop-due.delivered
          c.loop-due.invariant
          (g.X.Disk.device c.send_due.new.site) c.send_due.new.store (g.C.Clock.tells c.send_due.new.clock) (g.C.Clock.given c.send_due.new.clock) c.in-Some.due is
          did.same did.peers did.under_way did.disk (rw w.in-Kept.is at did.store) (rw w.in-Kept.is at did.sent))
    ]
