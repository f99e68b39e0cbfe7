use Rattle.std.proofs.Common.{ap, ◌∙◌}
use Rattle.media_rows.specs.Requests.{is_deleting}
use Rattle.id_index.specs.Index.{has_pairs}
use Rattle.delete_work.proofs.Kept.{deleting_is}
use Rattle.delete_work.proofs.book.DeleteBook.deleting.Goals as goal

-- the index has just the requests that delete the flow
pub returns : goal.returns
returns c = c.has_any.ensures ∙ ap has_pairs (c.self.invariant.ending c.args.flow) ∙ deleting_is c.args.flow c.self.inside.rows
    ∙ ap (λ l. is_deleting l c.args.flow) c.self.view_is
