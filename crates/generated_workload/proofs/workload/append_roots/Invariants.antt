use Rattle.std.proofs.Common.{◌≡◌, ◌++◌}
use Rattle.std.specs.List.{repeat}
use Rattle.generated_workload.specs.Workload.{get_root}
use Rattle.generated_workload.proofs.workload.append_roots.Given as goal

abbrev pub invariant-loop : goal.invariant-loop
invariant-loop l = l.out ≡ l.initial.out ++ repeat l.counter get_root
