use Rattle.media_book.proofs.Kept.{nothing_is, nothing_seen}
use Rattle.media_book.proofs.book.MediaBook.empty.Goals as goal

-- nothing is named and nothing is held
pub invariant_of-result : goal.invariant_of-result
invariant_of-result c =
    rw (c.empty.ensures, c.empty-2.ensures) (nothing_is c.args.blocks c.in_ok-new.field-0 c.in_ok-new.ensures)

pub returns : goal.returns
returns c = rw (c.empty.ensures, c.empty-2.ensures) (nothing_seen c.args.blocks c.in_ok-new.field-0 c.in_ok-new.ensures)
