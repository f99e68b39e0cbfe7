use Rattle.std.proofs.Common.{arith}
use Rattle.std.proofs.lemmas.Int.{to_z-of_z}
use Rattle.hls_manifest.proofs.durations.nanos_between.Goals as goal

-- the difference fits, so its bits stand for itself
pub returns-clause-value : goal.returns-clause-value
returns-clause-value c = grind (arith, to_z-of_z)
