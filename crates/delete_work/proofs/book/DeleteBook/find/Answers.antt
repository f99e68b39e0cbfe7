use Rattle.std.proofs.Common.{ap, ◌∙◌}
use Rattle.media_rows.specs.Requests.{request_of}
use Rattle.media_rows.specs.Views.{id_key}
use Rattle.shared_tree.specs.Pairs.{value_at}
use Rattle.delete_work.proofs.Kept.{request_found}
use Rattle.delete_work.proofs.book.DeleteBook.find.Goals as goal

-- requests stand at the keys of their serials
pub returns : goal.returns
returns c = c.row_at.ensures ∙ ap (λ n. value_at (id_key n) c.self.inside.rows) c.as_id.ensures
    ∙ request_found c.args.serial c.self.inside.rows c.self.invariant.keyed ∙ ap (request_of c.args.serial) c.self.view_is
