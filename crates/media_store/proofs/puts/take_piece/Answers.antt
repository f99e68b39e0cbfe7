use Rattle.std.proofs.Common.{subst}
use Rattle.media_store.specs.Within.{LeavesObjects}
use Rattle.media_store.proofs.puts.take_piece.Goals as goal

pub returns-in_err-write_free-in-Write-clause-keeps : goal.returns-in_err-write_free-in-Write-clause-keeps
returns-in_err-write_free-in-Write-clause-keeps g c = λ kept held agrees place free.
    c.write_free.ensures.keeps kept held agrees place (subst (LeavesObjects kept.library) c.in-Write.is free)

pub returns-else-not-same-clause-keeps : goal.returns-else-not-same-clause-keeps
returns-else-not-same-clause-keeps g c = λ kept held agrees place free. c.is_same.ensures.keeps kept held agrees

pub returns-in_ok-write_free-in-Write-clause-keeps : goal.returns-in_ok-write_free-in-Write-clause-keeps
returns-in_ok-write_free-in-Write-clause-keeps g c = λ kept held agrees place free.
    c.write_free.ensures.keeps kept held agrees place (subst (LeavesObjects kept.library) c.in-Write.is free)
