use Rattle.std.proofs.Common.{[], refl, subst, sym, ◌∙◌}
use Rattle.disk_trait.specs.Device.{Device}
use Rattle.request_hearing.specs.Hearing.{GivesRequest}
use Rattle.store_states.specs.Kept.{StoreView}
use Rattle.tams_service.specs.Answering.{PlanKeepsId, TellsAllOf}
use Rattle.tams_service.specs.Serving.{ServiceSeen}
use Rattle.tams_service.proofs.Clocks.{clock_once}
use Rattle.tams_service.proofs.Ids.{planned_id}
use Rattle.tams_service.proofs.Wholes.{no_put, parts_are, tells_read, whole_given, whole_starved, whole_stopped}
use Rattle.tams_service.proofs.service.TamsService.answer_whole.Goals as goal

-- The request asks for no put of an object's bytes.
pub plan_whole-requires-clause-no_put : goal.plan_whole-requires-clause-no_put
plan_whole-requires-clause-no_put g c = λ object asks.
    let (so_far, all, said, given) = c.requires.given in
    let here = subst (λ (s : ServiceSeen). GivesRequest so_far all said s.fed c.args.head) (sym c.self.view_is) given in
    no_put here c.media_puts_agree.ensures.asks c.self.inside.routes object (rw (c.bytes.ensures, c.bytes-2.ensures) at asks)

-- What is planned is of the store as it was read.
pub give_answer-requires-clause-id : goal.give_answer-requires-clause-id
give_answer-requires-clause-id g c =
    let (so_far, all, said, given) = c.requires.given in
    let here = subst (λ (s : ServiceSeen). GivesRequest so_far all said s.fed c.args.head) (sym c.self.view_is) given in
    let step = rw (c.bytes.ensures, c.bytes-2.ensures) at c.in-Ok.ensures.step [] here.request in
    subst (λ (k : StoreView). PlanKeepsId k c.in-Ok.answer.planned) (sym c.in-Ok.ensures.kept)
    (planned_id c.self.inside.store.kept _ c.in-Ok.answer.planned (step (parts_are here)))

-- There was no memory.
pub returns-in-Err-Memory-clause-leads : goal.returns-in-Err-Memory-clause-leads
returns-in-Err-Memory-clause-leads g c = λ tells clock.
    let seen : ServiceSeen = record { store = c.self.inside.store; fed = c.self.inside.hearing; base = c.self.inside.base } in
    let next : ServiceSeen = record { store = c.plan_whole.new.store; fed = c.self.inside.hearing; base = c.self.inside.base } in
    let read = c.in-Err-Memory.ensures in
    let reads = rw c.in-Err-Memory.field-0-is at read.reads in
    rw (← c.self.view_is, c.starve.ensures.starved)
    (whole_starved seen next (g.X.Disk.device c.args.site.now) (g.X.Disk.device c.plan_whole.new.disk) (g.X.Disk.device c.starve.new.site)
    (g.C.Clock.given c.args.clock.now) (g.C.Clock.given c.now-now.new.self) c.args.tally.now c.starve.new.tally c.now-now.result
    (c.now-now.ensures.given clock) refl _ reads c.args.head read.kept (rw c.in-Err-Memory.field-0-is at read.spent) read.keeps
    (c.starve.ensures.leads (tells_read _ _ _ reads tells)))

-- A read of the object's bytes failed.
pub returns-in-Err-Disk-clause-leads : goal.returns-in-Err-Disk-clause-leads
returns-in-Err-Disk-clause-leads g c = λ tells clock.
    let seen : ServiceSeen = record { store = c.self.inside.store; fed = c.self.inside.hearing; base = c.self.inside.base } in
    let next : ServiceSeen = record { store = c.plan_whole.new.store; fed = c.self.inside.hearing; base = c.self.inside.base } in
    let read = c.in-Err-Disk.ensures in
    let reads = rw c.in-Err-Disk.field-0-is at read.reads in
    rw (← c.self.view_is, c.stop.ensures.stopped)
    (whole_stopped seen next (g.X.Disk.device c.args.site.now) (g.X.Disk.device c.plan_whole.new.disk) (g.X.Disk.device c.stop.new.site)
    (g.C.Clock.given c.args.clock.now) (g.C.Clock.given c.now-now.new.self) c.args.tally.now c.stop.new.tally c.now-now.result
    (c.now-now.ensures.given clock) refl _ reads c.args.head (c.stop.ensures.leads (tells_read _ _ _ reads tells)))

-- The answer was planned.
pub returns-in-Ok-clause-leads : goal.returns-in-Ok-clause-leads
returns-in-Ok-clause-leads g c = λ tells clock.
    let seen : ServiceSeen = record { store = c.self.inside.store; fed = c.self.inside.hearing; base = c.self.inside.base } in
    let read = c.in-Ok.ensures in
    rw (← c.self.view_is)
    (whole_given seen c.give_answer.new.self (g.X.Disk.device c.args.site.now) (g.X.Disk.device c.plan_whole.new.disk)
    (g.X.Disk.device c.give_answer.new.site) (g.C.Clock.given c.args.clock.now) (g.C.Clock.given c.now-now.new.self) c.args.tally.now
    c.give_answer.new.tally c.now-now.result (c.now-now.ensures.given clock) c.give_answer.ensures.fed _ read.reads c.args.head c.in-Ok.answer
    c.give_answer.result c.plan_whole.new.store read.kept read.spent read.keeps
    (λ held r agrees is. (rw (c.bytes.ensures, c.bytes-2.ensures) at read.answers tells.shows held r) agrees is)
    (c.give_answer.ensures.leads (tells_read _ _ _ read.reads tells)))

pub returns-in-Err-Memory-clause-clock : goal.returns-in-Err-Memory-clause-clock
returns-in-Err-Memory-clause-clock g c =
    clock_once _ _ _ _ c.now-now.result c.now-now.ensures.moment c.now-now.ensures.told_before c.now-now.ensures.lasts c.now-now.ensures.given

pub returns-in-Err-Disk-clause-clock : goal.returns-in-Err-Disk-clause-clock
returns-in-Err-Disk-clause-clock g c =
    clock_once _ _ _ _ c.now-now.result c.now-now.ensures.moment c.now-now.ensures.told_before c.now-now.ensures.lasts c.now-now.ensures.given

pub returns-in-Ok-clause-clock : goal.returns-in-Ok-clause-clock
returns-in-Ok-clause-clock g c =
    clock_once _ _ _ _ c.now-now.result c.now-now.ensures.moment c.now-now.ensures.told_before c.now-now.ensures.lasts c.now-now.ensures.given
