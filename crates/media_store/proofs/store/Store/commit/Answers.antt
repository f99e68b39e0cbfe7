use Rattle.std.proofs.Common.{is_ok, sym, subst}
use Rattle.store_writes.specs.Writes.{Keeps}
use Rattle.media_store.specs.Stores.{journal_of}
use Rattle.media_store.proofs.Outcomes.{commits_bare, made_if, next_by, ok_so, stands_by}
use Rattle.media_store.proofs.Planning.{step_blocks}
use Rattle.media_store.proofs.PutFacts.{nothing_keeps}
use Rattle.media_store.proofs.store.Store.commit.Goals as goal

-- its library has the file's media blocks
pub write-requires-clause-blocks : goal.write-requires-clause-blocks
write-requires-clause-blocks g c =
    step_blocks (journal_of c.args.self.now.kept) c.requires.ready.change c.args.planned c.requires.ready.step

pub returns-clause-makes : goal.returns-clause-makes
returns-clause-makes g c = λ honest shows held agrees change step.
    let kept = c.args.self.now.kept in
    let old = g.D.Disk.device c.args.disk.now in
    made_if (is_ok c.write.result) old (g.D.Disk.device c.write.new.disk) kept c.write.new.self.kept held change c.args.planned step
    (commits_bare kept c.args.planned change c.requires.ready step) (ok_so c.write.result c.write.ensures.kept)
    (λ unmade. subst (λ d. Keeps kept held old (g.D.Disk.device d)) (sym (c.write.ensures.unchanged unmade).0) (nothing_keeps kept held old agrees))
    (λ changed came makes fits there. c.write.ensures.makes honest shows held changed came agrees makes fits there)

pub returns-clause-stands : goal.returns-clause-stands
returns-clause-stands g c = λ honest shows stands.
    let kept = c.args.self.now.kept in
    let can = c.requires.ready in
    let old = g.D.Disk.device c.args.disk.now in
    let new = g.D.Disk.device c.write.new.disk in
    stands_by c.write.result old new kept c.write.new.self.kept stands.held can.change
    (made_if (is_ok c.write.result) old new kept c.write.new.self.kept stands.held can.change c.args.planned can.step can.bare
    (ok_so c.write.result c.write.ensures.kept)
    (λ unmade. subst (λ d. Keeps kept stands.held old (g.D.Disk.device d)) (sym (c.write.ensures.unchanged unmade).0)
    (nothing_keeps kept stands.held old stands.agrees))
    (λ changed came makes fits there. c.write.ensures.makes honest shows stands.held changed came stands.agrees makes fits there))
    (next_by c.write.result kept c.write.new.self.kept can.change c.args.planned can.step c.write.ensures.kept)
