use Rattle.disk_trait.proofs.MemoryDiskLemmas.{disk_call, on_ok, torn, written}
use Rattle.disk_trait.specs.declared.history.Call.TheVariants.{Write}
use Rattle.disk_trait.proofs.memory_disk.MemoryDiskDisk.write_at.Goals as goal

pub returns-clause-call : goal.returns-clause-call
returns-clause-call c = disk_call (Write c.args.at c.args.bytes.now c.make_write.ensures.0) _ _ _ c.make_write.ensures.1

pub returns-clause-written : goal.returns-clause-written
returns-clause-written c = λ _. on_ok c.make_write.result (written c.args.at c.args.bytes.now c.make_write.ensures.0 _ _ _ c.requires c.make_write.ensures.1)

pub returns-clause-torn : goal.returns-clause-torn
returns-clause-torn c = λ _. torn c.args.at c.args.bytes.now c.make_write.ensures.0 _ _ _ c.make_write.ensures.1
