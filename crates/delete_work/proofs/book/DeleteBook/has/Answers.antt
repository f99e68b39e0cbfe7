use Rattle.std.proofs.Common.{ap, is_some, sym, ◌∙◌}
use Rattle.delete_work.proofs.Lists.{copied_there, found_any}
use Rattle.media_rows.specs.declared.request.DeleteRow.{DeleteRow}
use Rattle.std.proofs.Common.{◌==◌}
use Rattle.delete_work.proofs.book.DeleteBook.has.Goals as goal

-- what is found is there
pub returns : goal.returns
returns c = c.is_some.ensures ∙ sym (copied_there c.find.result) ∙ ap is_some c.find.ensures
    ∙ found_any (λ (row : DeleteRow). row.serial == c.args.serial) c.args.self.now
