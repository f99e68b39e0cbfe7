use Rattle.std.proofs.Common.{◌≡◌, length}
use Rattle.media_rows.specs.Requests.{newest_done}
use Rattle.delete_work.proofs.book.DeleteBook.newest.Given as goal

-- what is left keeps what all keep
abbrev pub invariant-excess : goal.invariant-excess
invariant-excess l = newest_done l.book ≡ newest_done l.fn.self

abbrev pub decreases-excess : goal.decreases-excess
decreases-excess l = length l.book
