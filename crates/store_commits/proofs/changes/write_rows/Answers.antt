use Rattle.std.proofs.Common.{is_ok}
use Rattle.store_commits.proofs.Writing.{no_rows, some_rows}
use Rattle.store_commits.proofs.changes.write_rows.Goals as goal

pub returns-in-None-clause-makes : goal.returns-in-None-clause-makes
returns-in-None-clause-makes g c = rw c.in-None.is (λ honest shows kept held agrees same text.
    no_rows kept held (g.D.Disk.device c.args.disk.now) agrees)

pub returns-in-Some-clause-makes : goal.returns-in-Some-clause-makes
returns-in-Some-clause-makes g c = rw (c.in-Some.is, ← c.bytes.ensures) (λ honest shows kept held agrees same text.
    some_rows (is_ok c.checkpoint.result) kept held c.bytes.result.now (g.D.Disk.device c.args.disk.now) (g.D.Disk.device c.checkpoint.new.disk)
    (c.checkpoint.ensures.makes honest shows kept held agrees same text))
