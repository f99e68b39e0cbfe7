use Rattle.std.proofs.Common.{◌≡◌, ◌++◌}
use Rattle.std.specs.List.{flat_map}
use Rattle.media_rows.specs.Lists.{numbers_below}
use Rattle.generated_workload.specs.Workload.{object_requests}
use Rattle.generated_workload.proofs.workload.append_objects.Given as goal

abbrev pub invariant-loop-i : goal.invariant-loop-i
invariant-loop-i l = l.out ≡ l.initial.out ++ flat_map (object_requests l.number) (numbers_below l.i)
