use Rattle.hls_manifest.proofs.TargetLemmas.{targets_least}
use Rattle.hls_manifest.proofs.laws.targets_are_least.Goals as goal

pub returns : goal.returns
returns c = targets_least
