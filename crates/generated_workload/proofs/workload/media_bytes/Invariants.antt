use Rattle.std.proofs.Common.{◌≡◌, map}
use Rattle.media_rows.specs.Lists.{numbers_below}
use Rattle.generated_workload.specs.Workload.{media_byte}
use Rattle.generated_workload.proofs.workload.media_bytes.Given as goal

abbrev pub invariant-loop-j : goal.invariant-loop-j
invariant-loop-j l = l.bytes ≡ map (media_byte l.number l.i) (numbers_below l.j)
