use Rattle.std.proofs.Common.{◌∙◌, subst, sym}
use Rattle.request_hearing.specs.Hearing.{OpensMedia}
use Rattle.tams_service.specs.Serving.{ServiceSeen}
use Rattle.tams_service.proofs.Clocks.{clock_once}
use Rattle.tams_service.proofs.Bodies.{media_planned, media_starved}
use Rattle.tams_service.proofs.Planned.{begun_id, put_begun}
use Rattle.tams_service.proofs.service.TamsService.answer_media.Goals as goal

pub take_put-requires-clause-put : goal.take_put-requires-clause-put
take_put-requires-clause-put g c =
    let (so_far, all, said, opened) = c.requires.opened in
    let o = subst (λ (s : ServiceSeen). OpensMedia so_far all said s.fed c.args.head) (sym c.self.view_is) opened in
    rw (← c.self.view_is)
    (put_begun o c.self.inside.base c.bytes.result.now c.now-now.result c.self.inside.store.kept c.in-Ok.plan.responses
    (c.bytes.ensures ∙ o.tells.target) c.in-Ok.plan.put c.in-Ok.ensures)

pub take_put-requires-clause-id : goal.take_put-requires-clause-id
take_put-requires-clause-id g c =
    let (so_far, all, said, opened) = c.requires.opened in
    let o = subst (λ (s : ServiceSeen). OpensMedia so_far all said s.fed c.args.head) (sym c.self.view_is) opened in
    rw (← c.self.view_is)
    (begun_id o c.self.inside.base c.bytes.result.now c.now-now.result c.self.inside.store.kept c.in-Ok.plan.responses
    (c.bytes.ensures ∙ o.tells.target) c.in-Ok.plan.put c.in-Ok.ensures)

pub returns-in-Err-clause-leads : goal.returns-in-Err-clause-leads
returns-in-Err-clause-leads g c = λ tells clock.
    rw c.starve.ensures.starved
    (media_starved c.args.self.now c.args.head (g.X.Disk.device c.args.site.now) (g.X.Disk.device c.starve.new.site)
    (g.C.Clock.given c.args.clock.now) (g.C.Clock.given c.now-now.new.self) c.now-now.result c.args.tally.now c.starve.new.tally
    (c.now-now.ensures.given clock) (c.starve.ensures.leads tells))

pub returns-in-Ok-clause-leads : goal.returns-in-Ok-clause-leads
returns-in-Ok-clause-leads g c = λ tells clock.
    let seen : ServiceSeen = record { store = c.self.inside.store; fed = c.self.inside.hearing; base = c.self.inside.base } in
    rw (← c.self.view_is)
    (media_planned seen c.take_put.new.self c.args.head (g.X.Disk.device c.args.site.now) (g.X.Disk.device c.take_put.new.site)
    (g.C.Clock.given c.args.clock.now) (g.C.Clock.given c.now-now.new.self) c.now-now.result c.args.tally.now c.take_put.new.tally
    (c.now-now.ensures.given clock) c.take_put.result c.in-Ok.plan.put c.in-Ok.plan.responses c.bytes.result.now c.bytes.ensures c.in-Ok.ensures
    (rw (← c.self.view_is) at c.take_put.ensures.leads tells))

pub returns-in-Err-clause-clock : goal.returns-in-Err-clause-clock
returns-in-Err-clause-clock g c =
    clock_once _ _ _ _ c.now-now.result c.now-now.ensures.moment c.now-now.ensures.told_before c.now-now.ensures.lasts c.now-now.ensures.given

pub returns-in-Ok-clause-clock : goal.returns-in-Ok-clause-clock
returns-in-Ok-clause-clock g c =
    clock_once _ _ _ _ c.now-now.result c.now-now.ensures.moment c.now-now.ensures.told_before c.now-now.ensures.lasts c.now-now.ensures.given
