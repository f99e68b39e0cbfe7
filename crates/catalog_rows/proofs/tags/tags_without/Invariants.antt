use Rattle.std.proofs.Common.{◌≡◌, ◌++◌, drop, filter, not, bytes_eq}
use Rattle.catalog_rows.proofs.tags.tags_without.Given as goal

abbrev pub invariant-loop-tag : goal.invariant-loop-tag
invariant-loop-tag l =
    l.list ++ filter (λ tag. not (bytes_eq tag.name l.name)) (drop l.tag-index l.tags) ≡ filter (λ tag. not (bytes_eq tag.name l.name)) l.tags
