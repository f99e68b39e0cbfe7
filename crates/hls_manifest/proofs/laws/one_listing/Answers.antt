use Rattle.hls_manifest.proofs.ReadingLemmas.{spelled_once}
use Rattle.hls_manifest.proofs.laws.one_listing.Goals as goal

pub returns : goal.returns
returns c = spelled_once
