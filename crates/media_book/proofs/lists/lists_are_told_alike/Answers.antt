use Rattle.media_book.proofs.Telling.{lists_are_told_alike}
use Rattle.media_book.proofs.lists.lists_are_told_alike.Goals as goal

pub returns : goal.returns
returns c = lists_are_told_alike
