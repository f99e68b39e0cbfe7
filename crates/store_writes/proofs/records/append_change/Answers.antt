use Rattle.std.proofs.Common.{true, false}
use Rattle.store_writes.proofs.Keeping.{appended_at}
use Rattle.store_writes.proofs.records.append_change.Goals as goal

pub returns-in-Ok-clause-makes : goal.returns-in-Ok-clause-makes
returns-in-Ok-clause-makes g c = λ honest shows kept held next next_held agrees same step holds.
    appended_at (g.D.Disk.device c.args.disk.now) (g.D.Disk.device c.append.new.disk) kept held next c.args.frame.now true c.args.journal.now agrees step
    next_held holds same c.requires.fits (λ contents each. c.in-Ok.ensures.moments honest shows contents each)

pub returns-in-Err-clause-makes : goal.returns-in-Err-clause-makes
returns-in-Err-clause-makes g c = λ honest shows kept held next next_held agrees same step holds.
    appended_at (g.D.Disk.device c.args.disk.now) (g.D.Disk.device c.append.new.disk) kept held next c.args.frame.now false c.args.journal.now agrees step
    next_held holds same c.requires.fits (λ contents each. c.in-Err.ensures.moments honest shows contents each)
