use Rattle.std.proofs.Common.{◌≡◌, ◌++◌, drop, filter}
use Rattle.media_rows.specs.Lists.{is_past}
use Rattle.shared_tree.specs.Pairs.{values_of}
use Rattle.core_views.proofs.pages.rows_past.Given as goal

abbrev pub invariant-loop-row : goal.invariant-loop-row
invariant-loop-row g l =
    values_of l.past.items ++ filter (λ row. is_past l.page.after l.page.reverse (g.T.Keyed.page_key row)) (drop l.row-index l.rows)
    ≡ filter (λ row. is_past l.page.after l.page.reverse (g.T.Keyed.page_key row)) l.rows
