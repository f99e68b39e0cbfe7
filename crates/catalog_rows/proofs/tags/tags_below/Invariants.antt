use Rattle.std.proofs.Common.{◌≡◌, ◌++◌, drop, filter}
use Rattle.media_rows.specs.Catalog.{tag_before}
use Rattle.catalog_rows.proofs.tags.tags_below.Given as goal

abbrev pub invariant-loop-other : goal.invariant-loop-other
invariant-loop-other l = l.list ++ filter (λ other. tag_before other l.tag) (drop l.other-index l.tags) ≡ filter (λ other. tag_before other l.tag) l.tags
