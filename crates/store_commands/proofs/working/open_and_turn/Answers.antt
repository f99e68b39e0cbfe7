use Rattle.disk_trait.proofs.Theorems.{calls_twice}
use Rattle.store_commands.proofs.WorkingLemmas.{work_disk, work_done, work_refused_by}
use Rattle.store_commands.proofs.working.open_and_turn.Goals as goal

-- The store was opened, and turns were made.
pub returns-in-Ok-clause-disk : goal.returns-in-Ok-clause-disk
returns-in-Ok-clause-disk g c =
    let all = calls_twice _ (g.D.Disk.device c.args.disk.now) (g.D.Disk.device c.open.new.disk) (g.D.Disk.device c.make_turns-end.new.disk)
    c.in-Ok.ensures.reads.calls c.make_turns-end.ensures.calls in
    rw (c.work_outcome.ensures, work_disk c.make_turns-end.result) all.counted

pub returns-in-Ok-clause-ends : goal.returns-in-Ok-clause-ends
returns-in-Ok-clause-ends g c =
    rw c.work_outcome.ensures
    (work_done (g.D.Disk.device c.args.disk.now) (g.D.Disk.device c.open.new.disk) (g.C.Clock.tells c.args.clock.now)
    (g.C.Clock.given c.args.clock.now) (g.met.D.Disk.sound c.args.disk.now) _ c.in-Ok.ensures.reads c.kept_images_stand.ensures
    c.an_image_stands_for_one_state.ensures c.in-Ok.store c.in-Ok.ensures.answer c.in-Ok.ensures.unspent c.in-Ok.ensures.agrees
    (g.D.Disk.device c.make_turns-end.new.disk) (g.C.Clock.given c.make_turns-end.new.clock) c.make_turns-end.result c.make_turns-end.ensures.calls
    c.make_turns-end.ensures.worked)

-- It couldn't be.
pub returns-in-Err-clause-ends : goal.returns-in-Err-clause-ends
returns-in-Err-clause-ends g c =
    rw c.opening_outcome.ensures
    (work_refused_by (g.D.Disk.device c.args.disk.now) (g.D.Disk.device c.open.new.disk) (g.C.Clock.tells c.args.clock.now)
    (g.C.Clock.given c.args.clock.now) (g.met.D.Disk.sound c.args.disk.now) _ c.in-Err.ensures.reads c.damaged_images_stand_for_none.ensures.none
    c.in-Err.fault c.in-Err.ensures.answer)
