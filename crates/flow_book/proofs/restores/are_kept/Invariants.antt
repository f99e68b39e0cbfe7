use Rattle.std.proofs.Common.{◌≡◌, drop}
use Rattle.std.specs.List.{list_all}
use Rattle.media_rows.specs.Collections.{is_kept, member_ids}
use Rattle.shared_tree.specs.Pairs.{values}
use Rattle.flow_book.proofs.restores.are_kept.Given as goal

abbrev pub invariant-loop-member : goal.invariant-loop-member
invariant-loop-member l = list_all (is_kept (values l.flows)) (member_ids (drop l.member-index l.members)) ≡ list_all (is_kept (values l.flows))
    (member_ids l.members)
