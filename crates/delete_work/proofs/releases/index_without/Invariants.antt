use Rattle.std.proofs.Common.{◌≡◌, drop}
use Rattle.delete_work.specs.Within.Seeking.{without_starts}
use Rattle.delete_work.proofs.releases.index_without.Given as goal

abbrev pub invariant-loop-row : goal.invariant-loop-row
invariant-loop-row l = without_starts (drop l.row-index l.rows) l.next ≡ without_starts l.rows l.index
