use Rattle.std.proofs.Common.{drop}
use Rattle.media_book.specs.Within.Ties.{Telling}
use Rattle.media_book.proofs.book.MediaBook.add_list.Given as goal

abbrev pub invariant-loop-post : goal.invariant-loop-post
invariant-loop-post l = Telling l.flow l.serial l.next l.self.media l.media.media l.told l.posts (drop l.post-index l.posts)
