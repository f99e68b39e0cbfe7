use Rattle.std.proofs.Common.{◌∙◌, ap}
use Rattle.media_rows.specs.Lists.{placed}
use Rattle.id_index.proofs.Pairs.{if_ok}
use Rattle.delete_work.specs.Within.Keeping.{request_before}
use Rattle.delete_work.proofs.Orders.{placed_last}
use Rattle.delete_work.proofs.book.DeleteBook.request.Goals as goal

-- its serial is above all others
pub returns : goal.returns
returns c =
    if_ok c.put.result
    (λ next is. is ∙ ap (λ r. placed request_before r c.args.self.now) c.row.ensures ∙ placed_last _ c.args.self.now c.requires.above) c.put.ensures
