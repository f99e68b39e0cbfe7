use Rattle.std.proofs.Common.{ap, find, ◌∙◌}
use Rattle.media_rows.specs.Requests.{is_unfinished}
use Rattle.shared_tree.specs.Pairs.{first, values}
use Rattle.delete_work.proofs.Kept.{Rows, first_found}
use Rattle.delete_work.proofs.book.DeleteBook.first_due.Goals as goal

-- the unfinished ones stand apart
pub returns : goal.returns
returns c = c.first_request.ensures ∙ ap (λ (l : Rows). first (values l)) c.self.invariant.unfinished ∙ first_found is_unfinished c.self.inside.rows
    ∙ ap (find is_unfinished) c.self.view_is
