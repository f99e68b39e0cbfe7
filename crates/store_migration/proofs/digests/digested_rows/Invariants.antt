use Rattle.store_migration.proofs.Digesting.{HasDigested}
use Rattle.store_migration.proofs.digests.digested_rows.Given as goal

-- those before this one have their digests
abbrev pub invariant-loop-row : goal.invariant-loop-row
invariant-loop-row g l = HasDigested l.fn.area l.row-items l.list (g.D.Disk.device l.fn.disk) (g.D.Disk.device l.disk) l.row-index
