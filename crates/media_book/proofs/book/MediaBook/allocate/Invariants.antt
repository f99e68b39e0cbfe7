use Rattle.std.proofs.Common.{◌+◌, drop}
use Rattle.media_book.specs.Within.Ties.{Allocating}
use Rattle.media_book.proofs.book.MediaBook.allocate.Given as goal

abbrev pub invariant-loop-index : goal.invariant-loop-index
invariant-loop-index l = Allocating l.serial (l.serial + l.index) l.now l.self.media l.media.media l.ids (drop l.index l.ids)
