use Rattle.std.proofs.Common.{Err, true, refl, ap, sym, ◌∙◌}
use Rattle.std.proofs.lemmas.Result.{err_from_is_err_and}
use Rattle.store_delivery.proofs.Ending.{starved}
use Rattle.store_delivery.proofs.Answering.{sent_failed, sent_full, sent_gone, sent_kept}
use Rattle.store_delivery.proofs.sending.send.Goals as goal

-- there was no memory for the exchange
pub returns-in_err-exchange-clause-sent : goal.returns-in_err-exchange-clause-sent
returns-in_err-exchange-clause-sent g c = λ all b dials after h hook due w few.
    let p = err_from_is_err_and c.from_residual.result c.from_residual.ensures.1 in
    rw (p.1, p.2, c.in_err-exchange.ensures.err)
    (starved b dials (g.X.Disk.device c.args.site.now) (g.C.Clock.given c.args.clock.now) c.args.store.now after h
    (g.met.X.Disk.sound c.args.site.now) all.shows w)

-- it wasn't accepted
pub returns-then-not-accepts-clause-sent : goal.returns-then-not-accepts-clause-sent
returns-then-not-accepts-clause-sent g c = λ all b dials after h hook due w few.
    sent_kept b dials (g.X.Disk.device c.args.site.now) (g.X.Disk.device c.exchange.new.site) (g.C.Clock.given c.args.clock.now) c.args.store.now after h hook
    c.args.sending.now c.in_ok-exchange.field-0 (g.C.Clock.tells c.args.clock.now) (g.met.X.Disk.sound c.args.site.now)
    (g.met.X.Disk.sound c.exchange.new.site) all c.keeps_good.ensures w due c.in_ok-exchange.ensures.ok (sym c.if-not-accepts.ensures)

-- it was accepted, and its change failed
pub returns-in_err-mark_delivered-clause-sent : goal.returns-in_err-mark_delivered-clause-sent
returns-in_err-mark_delivered-clause-sent g c = λ all b dials after h hook due w few.
    let p = err_from_is_err_and c.from_residual-in_err-mark_delivered.result c.from_residual-in_err-mark_delivered.ensures.1 in
    let failed = c.in_err-mark_delivered.ensures in
    rw (p.1, p.2)
    (sent_failed b dials (g.X.Disk.device c.args.site.now) (g.X.Disk.device c.exchange.new.site) (g.C.Clock.given c.args.clock.now) c.args.store.now after h hook
    c.args.sending.now c.in_ok-exchange.field-0 (g.C.Clock.tells c.args.clock.now) (g.met.X.Disk.sound c.args.site.now)
    (g.met.X.Disk.sound c.exchange.new.site) all c.keeps_good.ensures w due c.in_ok-exchange.ensures.ok
    (g.X.Disk.device c.mark_delivered.new.disk) c.mark_delivered.new.self c.now.result (g.C.Clock.tells c.now.new.self) (g.C.Clock.given c.now.new.self)
    (sym c.if-not-accepts.ensures) few c.now.ensures.moment c.now.ensures.lasts c.now.ensures.given
    (λ same. ap (λ d. g.X.Disk.device d) same.1) (Err c.in_err-mark_delivered.field-0.0) c.in_err-mark_delivered.field-0.0 refl
    (g.met.X.Disk.sound c.mark_delivered.new.disk) failed.failing failed.makes failed.memory failed.calls)

-- it was accepted, and went
pub returns-then-branch-clause-sent : goal.returns-then-branch-clause-sent
returns-then-branch-clause-sent g c = λ all b dials after h hook due w few.
    let marked = c.in_ok-mark_delivered.ensures in
    sent_gone b dials (g.X.Disk.device c.args.site.now) (g.X.Disk.device c.exchange.new.site) (g.C.Clock.given c.args.clock.now) c.args.store.now after h hook
    c.args.sending.now c.in_ok-exchange.field-0 (g.C.Clock.tells c.args.clock.now) (g.met.X.Disk.sound c.args.site.now)
    (g.met.X.Disk.sound c.exchange.new.site) all c.keeps_good.ensures w due c.in_ok-exchange.ensures.ok
    (g.X.Disk.device c.mark_delivered.new.disk) c.mark_delivered.new.self c.now.result (g.C.Clock.tells c.now.new.self) (g.C.Clock.given c.now.new.self)
    (sym c.if-not-accepts.ensures) few c.now.ensures.moment c.now.ensures.lasts c.now.ensures.given true (sym marked.fits ∙ c.if-branch.true) marked.makes
    marked.calls refl marked.next

-- it was accepted, and its change has no room
pub returns-clause-sent : goal.returns-clause-sent
returns-clause-sent g c = λ all b dials after h hook due w few.
    let marked = c.in_ok-mark_delivered.ensures in
    let none = sym marked.fits ∙ c.if-branch.false in
    sent_full b dials (g.X.Disk.device c.args.site.now) (g.X.Disk.device c.exchange.new.site) (g.C.Clock.given c.args.clock.now) c.args.store.now after h hook
    c.args.sending.now c.in_ok-exchange.field-0 (g.C.Clock.tells c.args.clock.now) (g.met.X.Disk.sound c.args.site.now)
    (g.met.X.Disk.sound c.exchange.new.site) all c.keeps_good.ensures w due c.in_ok-exchange.ensures.ok
    (g.X.Disk.device c.mark_delivered.new.disk) c.mark_delivered.new.self c.now.result (g.C.Clock.tells c.now.new.self) (g.C.Clock.given c.now.new.self)
    (sym c.if-not-accepts.ensures) few c.now.ensures.moment c.now.ensures.lasts c.now.ensures.given none
    (ap (λ d. g.X.Disk.device d) (marked.unchanged none).1)
