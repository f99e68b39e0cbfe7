use Rattle.std.proofs.Common.{◌≡◌, ◌++◌, drop}
use Rattle.media_rows.specs.Collections.{member_ids}
use Rattle.catalog_rows.proofs.rows.member_ids.Given as goal

abbrev pub invariant-loop-member : goal.invariant-loop-member
invariant-loop-member l = l.ids.items ++ member_ids (drop l.member-index l.members) ≡ member_ids l.members
