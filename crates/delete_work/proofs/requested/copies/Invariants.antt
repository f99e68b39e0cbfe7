use Rattle.std.proofs.Common.{◌≡◌, ◌++◌, drop}
use Rattle.shared_tree.specs.Pairs.{values_of}
use Rattle.delete_work.proofs.requested.copies.Given as goal

abbrev pub invariant-loop-row : goal.invariant-loop-row
invariant-loop-row l = l.list ++ values_of (drop l.row-index l.rows) ≡ values_of l.rows
