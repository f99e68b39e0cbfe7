use Rattle.std.proofs.Common.{◌≡◌, take}
use Rattle.generated_workload.specs.StoredBytes.{stored_bytes_of}
use Rattle.generated_workload.proofs.stored.stored_bytes.Given as goal

abbrev pub invariant-loop-row : goal.invariant-loop-row
invariant-loop-row l = l.total ≡ stored_bytes_of (take l.row-index l.row-items)
