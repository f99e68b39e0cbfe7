use Rattle.std.proofs.Common.{ap, not, ◌∙◌}
use Rattle.media_rows.specs.Lists.{placed}
use Rattle.shared_tree.specs.Pairs.{values}
use Rattle.delete_work.specs.Within.Keeping.{entered_if, request_before}
use Rattle.delete_work.proofs.Kept.{Rows, put_kept, put_values}
use Rattle.delete_work.proofs.book.DeleteBook.put.Goals as goal

-- the request stands where it belongs, and in no other place
pub invariant_of-result : goal.invariant_of-result
invariant_of-result c =
    put_kept c.args.row.now c.self.inside.rows c.in_ok-entered.field-0 c.self.inside.unfinished c.in_ok-entered_if.field-0 c.self.inside.done
    c.in_ok-entered_if-2.field-0 c.self.inside.ending c.in_ok-ending_with.field-0 c.self.invariant c.in_ok-entered.ensures
    (c.in_ok-entered_if.ensures ∙ ap (λ b. entered_if (not b) c.args.row.now c.self.inside.unfinished) c.is_done-done.ensures)
    (c.in_ok-entered_if-2.ensures ∙ ap (λ b. entered_if b c.args.row.now c.self.inside.done) c.is_done-done.ensures) c.in_ok-ending_with.ensures

pub returns : goal.returns
returns c = ap (λ (l : Rows). values l) c.in_ok-entered.ensures ∙ put_values c.args.row.now c.self.inside.rows c.self.invariant.keyed
    ∙ ap (placed request_before c.args.row.now) c.self.view_is
