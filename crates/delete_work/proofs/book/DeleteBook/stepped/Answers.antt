use Rattle.std.proofs.Common.{ap, ◌∙◌}
use Rattle.media_rows.specs.declared.request.DeleteRow.{DeleteRow}
use Rattle.media_rows.specs.Requests.{newest_done, stepped_row}
use Rattle.id_index.proofs.Pairs.{if_ok}
use Rattle.delete_work.proofs.Orders.{placed_changed, rises}
use Rattle.delete_work.proofs.book.DeleteBook.stepped.Goals as goal

-- the request that is due stands in place of what it was
pub returns : goal.returns
returns c =
    if_ok c.newest.result (λ next is. is ∙ ap newest_done (c.in_ok-put.ensures
    ∙ placed_changed (stepped_row c.args.finished c.args.now) c.args.request.now c.stepped_row-row.result c.args.self.now
    (rises c.args.self.now c.is_in_order.ensures) c.requires.due c.stepped_row-row.ensures
    (ap (λ (r : DeleteRow). r.serial) c.stepped_row-row.ensures))) c.newest.ensures
