use Rattle.std.proofs.Common.{true, false, ap, sym}
use Rattle.media_store.specs.Stores.{StoreSeen}
use Rattle.media_store.proofs.Making.{commit_makes}
use Rattle.media_store.proofs.store.Store.write.Goals as goal

pub returns-in-Ok-clause-makes : goal.returns-in-Ok-clause-makes
returns-in-Ok-clause-makes g c = λ honest shows held change came agrees makes fits there.
    commit_makes true (g.D.Disk.device c.args.disk.now) (g.D.Disk.device c.write_change.new.disk) c.args.self.now.kept held change came c.args.planned
    c.in-Some.frame _ c.in-Some.is (ap (λ (s : StoreSeen). s.kept.journal) (sym c.self.view_is)) agrees makes fits there
    (λ k h next next_held. rw c.as_ref.ensures.value at c.in-Ok.ensures.makes honest shows k h next next_held)

pub returns-in-Err-clause-makes : goal.returns-in-Err-clause-makes
returns-in-Err-clause-makes g c = λ honest shows held change came agrees makes fits there.
    commit_makes false (g.D.Disk.device c.args.disk.now) (g.D.Disk.device c.write_change.new.disk) c.args.self.now.kept held change came c.args.planned
    c.in-Some.frame _ c.in-Some.is (ap (λ (s : StoreSeen). s.kept.journal) (sym c.self.view_is)) agrees makes fits there
    (λ k h next next_held. rw c.as_ref.ensures.value at c.in-Err.ensures.makes honest shows k h next next_held)
