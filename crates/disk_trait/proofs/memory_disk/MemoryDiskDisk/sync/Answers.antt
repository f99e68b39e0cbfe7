use Rattle.std.proofs.Common.{refl}
use Rattle.disk_trait.proofs.MemoryDiskLemmas.{disk_call, durable, on_ok, same_seen}
use Rattle.disk_trait.specs.declared.history.Call.TheVariants.{Sync}
use Rattle.disk_trait.proofs.memory_disk.MemoryDiskDisk.sync.Goals as goal

pub returns-clause-call : goal.returns-clause-call
returns-clause-call c = disk_call (Sync c.make_sync.ensures.0) _ _ _ c.make_sync.ensures.1

pub returns-clause-seen : goal.returns-clause-seen
returns-clause-seen c = on_ok c.make_sync.result (λ _. same_seen (Sync c.make_sync.ensures.0) _ _ _ (λ _. refl) c.make_sync.ensures.1)

pub returns-clause-durable : goal.returns-clause-durable
returns-clause-durable c = λ _. on_ok c.make_sync.result (durable c.make_sync.ensures.0 _ _ _ c.make_sync.ensures.1)
