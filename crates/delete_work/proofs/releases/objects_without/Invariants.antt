use Rattle.std.proofs.Common.{drop}
use Rattle.delete_work.specs.Within.Seeking.{Releasing}
use Rattle.delete_work.proofs.releases.objects_without.Given as goal

abbrev pub invariant-loop-row : goal.invariant-loop-row
invariant-loop-row l = Releasing l.flow l.now l.objects.kept l.next.kept l.rows (drop l.row-index l.rows)
