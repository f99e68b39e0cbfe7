use Rattle.std.proofs.Common.{◌≡◌, ◌++◌, drop, filter}
use Rattle.media_rows.specs.Catalog.{tag_before}
use Rattle.catalog_rows.proofs.tags.add_above.Given as goal

abbrev pub invariant-loop-other : goal.invariant-loop-other
invariant-loop-other l = l.list ++ filter (tag_before l.tag) (drop l.other-index l.tags) ≡ l.fn.list ++ filter (tag_before l.tag) l.tags
