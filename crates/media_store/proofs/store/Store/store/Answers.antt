use Rattle.std.proofs.Common.{is_ok, ◌∙◌}
use Rattle.media_store.specs.Changes.{kept_by}
use Rattle.media_store.specs.Puts.{bytes_at_extent}
use Rattle.media_store.proofs.Storing.{store_makes, unsynced}
use Rattle.media_store.proofs.store.Store.store.Goals as goal

pub returns-in-Ok-clause-makes : goal.returns-in-Ok-clause-makes
returns-in-Ok-clause-makes g c = λ honest shows held change agrees makes stores.
    let kept = c.args.self.now.kept in
    let synced = c.in-Ok.ensures in
    store_makes (is_ok c.write.result) (g.D.Disk.device c.args.disk.now) (g.D.Disk.device c.sync.new.self) (g.D.Disk.device c.write.new.disk) kept held change
    c.args.extent c.args.planned (g.met.D.Disk.sound c.args.disk.now) shows c.requires.place
    synced.call.time synced.seen (synced.durable honest) agrees makes stores
    (λ came now fits there.
    c.write.ensures.makes (synced.call.same.honest ∙ honest) (synced.call.same.shows ∙ shows) held change came now makes fits there)

-- the sync failed
pub returns-in-Err-clause-makes : goal.returns-in-Err-clause-makes
returns-in-Err-clause-makes g c = λ honest shows held change agrees makes stores.
    let kept = c.args.self.now.kept in
    let old = g.D.Disk.device c.args.disk.now in
    unsynced kept (kept_by kept c.args.planned) held change (bytes_at_extent kept c.args.extent old.seen) old (g.D.Disk.device c.sync.new.self)
    c.in-Err.ensures.call.time agrees
