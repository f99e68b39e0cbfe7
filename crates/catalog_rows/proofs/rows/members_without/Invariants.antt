use Rattle.std.proofs.Common.{◌≡◌, ◌==◌, ◌++◌, drop, filter, not}
use Rattle.catalog_rows.proofs.rows.members_without.Given as goal

abbrev pub invariant-loop-member : goal.invariant-loop-member
invariant-loop-member l =
    l.list ++ filter (λ m. not (m.flow == l.id)) (drop l.member-index l.members) ≡ filter (λ m. not (m.flow == l.id)) l.members
