use Rattle.std.proofs.Common.{◌+◌, drop}
use Rattle.media_book.specs.Within.Ties.{Adding}
use Rattle.media_book.proofs.book.MediaBook.add.Given as goal

abbrev pub invariant-loop-index : goal.invariant-loop-index
invariant-loop-index l = Adding l.flow l.serial (l.serial + l.index) l.self.media l.media.media l.posts (drop l.index l.posts)
