use Rattle.disk_trait.proofs.TornLemmas.{torn-overwritten}
use Rattle.disk_trait.proofs.sure_disk.SureDiskDisk.write_at.Goals as goal

-- A whole write is one of those that may be cut short.
pub returns-clause-torn : goal.returns-clause-torn
returns-clause-torn c = λ _. rw (c.overwrite.ensures, c.self.view_is) (torn-overwritten _ _ _ c.requires)
