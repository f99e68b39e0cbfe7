use Rattle.std.proofs.Common.{◌≡◌, drop}
use Rattle.std.specs.List.{list_all}
use Rattle.media_rows.specs.Collections.{is_kept, member_ids}
use Rattle.shared_tree.specs.Pairs.{values}
use Rattle.flow_book.proofs.restores.are_all_kept.Given as goal

abbrev pub invariant-loop-row : goal.invariant-loop-row
invariant-loop-row l = list_all (λ row. list_all (is_kept (values l.flows)) (member_ids row.body.members)) (drop l.row-index l.rows) ≡ list_all
    (λ row. list_all (is_kept (values l.flows)) (member_ids row.body.members)) l.rows
