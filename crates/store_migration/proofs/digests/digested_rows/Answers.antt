use Rattle.store_migration.proofs.Digesting.{there_now}
use Rattle.store_migration.proofs.digests.digested_rows.Goals as goal

pub digested_row-requires : goal.digested_row-requires
digested_row-requires g c = record {
  there = there_now _ _ _ _ _ _ c.loop-row.invariant c.loop-row-test.true c.row-item.result c.row-item.is
      (rw c.items-row-items.ensures c.requires.there);
}
