use Rattle.std.proofs.Common.{◌≡◌, ◌++◌, drop, filter}
use Rattle.media_rows.specs.Segments.{names_object}
use Rattle.shared_tree.specs.Pairs.{values_of}
use Rattle.segment_book.proofs.pages.named.Given as goal

abbrev pub invariant-loop-row : goal.invariant-loop-row
invariant-loop-row l =
    values_of l.kept.items ++ filter (names_object l.object) (values_of (drop l.row-index l.rows)) ≡ filter (names_object l.object) (values_of l.rows)
