use Rattle.media_book.proofs.ObjectRows.{shown_is}
use Rattle.media_book.proofs.book.MediaBook.shown_object.Goals as goal

-- it is the object of the id
pub returns-in_ok-duplicate-in-Some : goal.returns-in_ok-duplicate-in-Some
returns-in_ok-duplicate-in-Some c =
    shown_is c.args.self.now.media c.args.id.now c.in-Some.row.now c.in_ok-duplicate-in-Some.field-0 c.in_ok-flows-in-Some.flows c.in-Some.ensures
    c.in_ok-duplicate-in-Some.ensures c.in_ok-flows-in-Some.ensures
