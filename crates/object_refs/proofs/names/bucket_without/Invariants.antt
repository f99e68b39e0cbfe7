use Rattle.std.proofs.Common.{◌≡◌, ◌++◌, drop, filter, not}
use Rattle.object_refs.specs.NameTables.{is_named_so}
use Rattle.object_refs.proofs.names.bucket_without.Given as goal

abbrev pub invariant-loop-other : goal.invariant-loop-other
invariant-loop-other l =
    l.list ++ filter (λ entry. not (is_named_so l.id entry)) (drop l.other-index l.bucket) ≡ filter (λ entry. not (is_named_so l.id entry)) l.bucket
