use Rattle.std.proofs.Common.{◌≤◌, ap, sym, subst, ◌∙◌}
use Rattle.media_rows.specs.Requests.{done_count}
use Rattle.shared_tree.specs.Pairs.{first, values}
use Rattle.delete_work.specs.Within.Keeping.{without_first_done}
use Rattle.delete_work.proofs.Kept.{Rows, cut_kept, cut_values, none_done}
use Rattle.delete_work.proofs.book.DeleteBook.without_first_done.Goals as goal

-- one is done
pub unreachable-requires : goal.unreachable-requires
unreachable-requires c = absurd (none_done c.self.inside.rows c.self.inside.done c.self.invariant.done
    (subst (λ l. 1 ≤ done_count l) (sym c.self.view_is) c.requires.some) c.in_default.ensures)

-- it is left out everywhere
pub invariant_of-result : goal.invariant_of-result
invariant_of-result c =
    cut_kept c.in-Some.row.now c.self.inside.rows c.in_ok-left_out.field-0 c.self.inside.unfinished c.in_ok-left_out-2.field-0 c.self.inside.done
    c.in_ok-left_out-3.field-0 c.self.inside.ending c.in_ok-ending_without.field-0 c.self.invariant c.in_ok-left_out.ensures c.in_ok-left_out-2.ensures
    c.in_ok-left_out-3.ensures c.in_ok-ending_without.ensures

pub returns : goal.returns
returns c = ap (λ (l : Rows). values l) c.in_ok-left_out.ensures
    ∙ cut_values c.in-Some.row.now c.self.inside.rows c.keys_rise.ensures c.self.invariant.keyed
    (ap (λ (l : Rows). first (values l)) (sym c.self.invariant.done) ∙ sym c.in-Some.ensures)
    ∙ ap without_first_done c.self.view_is
