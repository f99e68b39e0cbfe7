use Rattle.std.proofs.Common.{drop}
use Rattle.media_book.specs.Within.Ties.{Removing}
use Rattle.media_book.proofs.book.MediaBook.remove.Given as goal

abbrev pub invariant-loop-row : goal.invariant-loop-row
invariant-loop-row l = Removing l.now l.self.media l.media.media l.rows (drop l.row-index l.rows)
