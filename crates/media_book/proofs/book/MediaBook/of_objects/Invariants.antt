use Rattle.media_book.specs.Within.Restoring.{ObjectsCame}
use Rattle.media_book.proofs.book.MediaBook.of_objects.Given as goal

abbrev pub invariant-loop-index : goal.invariant-loop-index
invariant-loop-index l = ObjectsCame l.blocks l.index l.objects l.media.media
