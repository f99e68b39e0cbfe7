use Rattle.std.proofs.Common.{◌≡◌, drop}
use Rattle.shared_tree.specs.Pairs.{values_of}
use Rattle.delete_work.specs.Within.Keeping.{ended_by}
use Rattle.delete_work.proofs.book.DeleteBook.ended.Given as goal

abbrev pub invariant-loop-row : goal.invariant-loop-row
invariant-loop-row l = ended_by l.flow l.now (values_of (drop l.row-index l.rows)) l.book ≡ ended_by l.flow l.now (values_of l.rows) l.self
