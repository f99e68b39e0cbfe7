use Rattle.std.proofs.Common.{ap, filter, ◌∙◌}
use Rattle.media_rows.specs.Requests.{is_unfinished, newest_done}
use Rattle.shared_tree.specs.Pairs.{values, values_of}
use Rattle.id_index.proofs.Pairs.{if_ok}
use Rattle.delete_work.specs.Within.Keeping.{ended_by}
use Rattle.delete_work.proofs.Kept.{Rows, unfinished_are}
use Rattle.delete_work.proofs.Orders.{ended_all, rises}
use Rattle.delete_work.proofs.book.DeleteBook.end_for.Goals as goal

-- the unfinished ones of the flow are ended one after the other
pub returns : goal.returns
returns c =
    let seen = ap values_of c.deref.ensures.value ∙ c.in_ok-unfinished.ensures ∙ ap (λ (l : Rows). values l) c.self.invariant.unfinished
    ∙ unfinished_are c.self.inside.rows ∙ ap (filter is_unfinished) c.self.view_is in
    if_ok c.newest.result (λ next is. is ∙ ap newest_done (c.in_ok-ended.ensures ∙ ap (λ l. ended_by c.args.flow c.args.now l c.args.self.now) seen
    ∙ ended_all c.args.flow c.args.now c.args.self.now (rises c.args.self.now c.is_in_order.ensures))) c.newest.ensures
