use Rattle.std.proofs.Common.{◌≡◌, drop}
use Rattle.media_rows.specs.Collections.{first_missing}
use Rattle.shared_tree.specs.Pairs.{values}
use Rattle.flow_book.proofs.collections.first_missing.Given as goal

abbrev pub invariant-loop-member : goal.invariant-loop-member
invariant-loop-member l = first_missing (values l.flows) l.id (drop l.member-index l.members) ≡ first_missing (values l.flows) l.id l.members
