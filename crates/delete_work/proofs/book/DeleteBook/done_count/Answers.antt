use Rattle.std.proofs.Common.{◌-◌, ◌^◌, ap, length, min, ◌∙◌}
use Rattle.media_rows.specs.Requests.{done_count}
use Rattle.delete_work.proofs.Kept.{Rows, done_are}
use Rattle.delete_work.proofs.book.DeleteBook.done_count.Goals as goal

-- the done ones stand apart
pub returns : goal.returns
returns c = c.len.ensures
    ∙ ap (λ n. min n (2 ^ 64 - 1)) (ap (λ (l : Rows). length l) c.self.invariant.done ∙ done_are c.self.inside.rows ∙ ap done_count c.self.view_is)
