use Rattle.std.proofs.Common.{refl, sym, subst}
use Rattle.store_delivery.specs.Within.Underway.{HasSent, IsUnderway}
use Rattle.store_delivery.proofs.Progressing.{passes}
use Rattle.store_delivery.proofs.Rounds.{due_none, due_one, due_waits, fewer_wait}
use Rattle.store_delivery.proofs.sending.send_due.Goals as goal

-- nothing is sent to the hook
pub returns-in-None-clause-sent : goal.returns-in-None-clause-sent
returns-in-None-clause-sent g c = λ all b dials after h due w few.
    let old = g.X.Disk.device c.args.site.now in
    let given = g.C.Clock.given c.args.clock.now in (
      all.clock_tells,
      (
        h,
        subst (λ n. IsUnderway b dials old given c.args.store.now n h) (sym due.serial)
            (passes b dials old given c.args.store.now after h due.hook c.keeps_good.ensures w due.next
            (due_none c.args.store.now.kept.library after c.args.due.now due c.in-None.is)),
        refl,
      ),
    )

-- what is due is its first event
pub send-requires-clause-first : goal.send-requires-clause-first
send-requires-clause-first g c =
    due_waits c.args.store.now.kept.library c.requires.due.0 c.args.due.now c.in-Some.sending c.requires.due.1 c.in-Some.is

pub returns-in-Some-clause-store : goal.returns-in-Some-clause-store
returns-in-Some-clause-store g c =
    fewer_wait c.args.store.now c.send.new.store c.requires.due.0 c.args.due.now c.in-Some.sending c.requires.due.1 c.in-Some.is c.send.result
    c.send.ensures.store

pub returns-in-Some-clause-sent : goal.returns-in-Some-clause-sent
returns-in-Some-clause-sent g c = λ all b dials after h due w few.
    subst (λ n. HasSent b dials (g.X.Disk.device c.send.new.site) (g.C.Clock.tells c.send.new.clock) (g.C.Clock.given c.send.new.clock) c.send.new.store after h
    n c.send.result) (sym due.serial)
    (c.send.ensures.sent all b dials after h due.hook (due_one c.args.store.now.kept.library after c.args.due.now c.in-Some.sending due c.in-Some.is) w few)
