use Rattle.delete_work.specs.Within.Seeking.{Sweeping}
use Rattle.delete_work.proofs.sweep.sweep_step.Given as goal

abbrev pub invariant-loop-taken : goal.invariant-loop-taken
invariant-loop-taken l = Sweeping l.now l._taken l.objects.kept l.left.kept l.gone
