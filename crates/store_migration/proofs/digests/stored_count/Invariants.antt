use Rattle.store_migration.proofs.Digesting.{HasCounted}
use Rattle.store_migration.proofs.digests.stored_count.Given as goal

-- those before this one were counted
abbrev pub invariant-loop-row : goal.invariant-loop-row
invariant-loop-row l = HasCounted l.rows l.row-index l.count
