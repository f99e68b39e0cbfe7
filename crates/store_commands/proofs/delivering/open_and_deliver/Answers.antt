use Rattle.std.proofs.Common.{refl, ap, subst}
use Rattle.disk_trait.specs.Calls.{IsCounted}
use Rattle.media_store.specs.Faults.{not_disk_fault}
use Rattle.store_core.specs.declared.library.Counts.{Counts}
use Rattle.store_commands.proofs.DeliverLemmas.{deliver_disk, deliver_done, deliver_refused_by}
use Rattle.store_commands.proofs.delivering.open_and_deliver.Goals as goal

-- The store was opened, and its events were sent.
pub returns-in-Ok-clause-disk : goal.returns-in-Ok-clause-disk
returns-in-Ok-clause-disk g c =
    rw (c.deliver_outcome.ensures, deliver_disk c.counts-waiting.result.events c.deliver_events-end.result)
    (subst (λ n. IsCounted (not_disk_fault c.deliver_events-end.result) n (g.X.Disk.device c.deliver_events-end.new.site).faults)
    (c.in-Ok.ensures.reads.calls.counted.stays refl) c.deliver_events-end.ensures.disk)

pub returns-in-Ok-clause-ends : goal.returns-in-Ok-clause-ends
returns-in-Ok-clause-ends g c =
    rw c.deliver_outcome.ensures
    (deliver_done (g.X.Disk.device c.args.site.now) (g.X.Disk.device c.open.new.disk) (g.C.Clock.tells c.args.clock.now)
    (g.C.Clock.given c.args.clock.now) (g.met.X.Disk.sound c.args.site.now) _ c.in-Ok.ensures.reads c.kept_images_stand.ensures
    c.an_image_stands_for_one_state.ensures c.in-Ok.store c.in-Ok.ensures.answer c.in-Ok.ensures.agrees _ (ap (λ (counts : Counts). counts.events) c.counts-waiting.ensures)
    (g.X.Disk.device c.deliver_events-end.new.site)
    (g.C.Clock.given c.deliver_events-end.new.clock) c.deliver_events-end.result c.deliver_events-end.ensures.peers c.deliver_events-end.ensures.under_way
    c.deliver_events-end.ensures.delivered)

-- It couldn't be.
pub returns-in-Err-clause-ends : goal.returns-in-Err-clause-ends
returns-in-Err-clause-ends g c =
    rw c.opening_outcome.ensures
    (deliver_refused_by (g.X.Disk.device c.args.site.now) (g.X.Disk.device c.open.new.disk) (g.C.Clock.tells c.args.clock.now)
    (g.C.Clock.given c.args.clock.now) (g.met.X.Disk.sound c.args.site.now) _ c.in-Err.ensures.reads c.damaged_images_stand_for_none.ensures.none
    c.in-Err.fault c.in-Err.ensures.answer)
