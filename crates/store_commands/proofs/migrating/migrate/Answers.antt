use Rattle.store_commands.proofs.MigrateEndLemmas.{counted_by, ends_by}
use Rattle.store_commands.proofs.migrating.migrate.Goals as goal

-- What its end says is put together.
pub returns-clause-disk : goal.returns-clause-disk
returns-clause-disk g c = rw c.migrated_outcome.ensures (counted_by (g.D.Disk.device c.args.disk.now) (g.D.Disk.device c.migrate_store.new.disk) c.migrate_store.result c.migrate_store.ensures.calls.counted)

pub returns-clause-ends : goal.returns-clause-ends
returns-clause-ends g c =
    let m = c.migrate_store.ensures in
    rw c.migrated_outcome.ensures (ends_by (g.D.Disk.device c.args.disk.now) (g.D.Disk.device c.migrate_store.new.disk) c.migrate_store.result m.answer m.moments m.durable m.refused m.calls)
