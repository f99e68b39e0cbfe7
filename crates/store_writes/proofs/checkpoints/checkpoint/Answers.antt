use Rattle.std.proofs.Common.{true, false}
use Rattle.store_writes.proofs.Keeping.{checked_at, checked_bytes}
use Rattle.store_writes.proofs.checkpoints.checkpoint.Goals as goal

pub returns-in-Ok-clause-makes : goal.returns-in-Ok-clause-makes
returns-in-Ok-clause-makes g c = λ honest shows kept held agrees same text.
    checked_at (g.D.Disk.device c.args.disk.now) (g.D.Disk.device c.checkpoint.new.disk) kept held c.args.rows.now true c.args.journal.now agrees text same
    c.requires.fits (λ contents each. c.in-Ok.ensures.moments honest shows contents each)

pub returns-in-Err-clause-makes : goal.returns-in-Err-clause-makes
returns-in-Err-clause-makes g c = λ honest shows kept held agrees same text.
    checked_at (g.D.Disk.device c.args.disk.now) (g.D.Disk.device c.checkpoint.new.disk) kept held c.args.rows.now false c.args.journal.now agrees text same
    c.requires.fits (λ contents each. c.in-Err.ensures.moments honest shows contents each)

-- the calls write before the media blocks
pub returns-in-Ok-clause-bytes : goal.returns-in-Ok-clause-bytes
returns-in-Ok-clause-bytes g c = λ honest shows kept held agrees same.
    checked_bytes (g.D.Disk.device c.args.disk.now) (g.D.Disk.device c.checkpoint.new.disk) kept held c.args.rows.now true c.args.journal.now agrees same
    c.requires.fits (λ contents each. c.in-Ok.ensures.moments honest shows contents each)

pub returns-in-Err-clause-bytes : goal.returns-in-Err-clause-bytes
returns-in-Err-clause-bytes g c = λ honest shows kept held agrees same.
    checked_bytes (g.D.Disk.device c.args.disk.now) (g.D.Disk.device c.checkpoint.new.disk) kept held c.args.rows.now false c.args.journal.now agrees same
    c.requires.fits (λ contents each. c.in-Err.ensures.moments honest shows contents each)
