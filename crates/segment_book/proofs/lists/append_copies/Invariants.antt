use Rattle.std.proofs.Common.{◌≡◌, ◌++◌, drop}
use Rattle.shared_tree.specs.Pairs.{values_of}
use Rattle.segment_book.proofs.lists.append_copies.Given as goal

abbrev pub invariant-loop-row : goal.invariant-loop-row
invariant-loop-row l = l.list ++ values_of (drop l.row-index l.rows) ≡ l.fn.list ++ values_of l.rows
