use Rattle.media_book.specs.Within.Restoring.{RowsCame}
use Rattle.media_book.proofs.book.MediaBook.with_segments.Given as goal

abbrev pub invariant-loop-index : goal.invariant-loop-index
invariant-loop-index l = RowsCame l.self.media l.index l.segments l.media.media
