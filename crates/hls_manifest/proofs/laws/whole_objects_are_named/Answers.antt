use Rattle.hls_manifest.proofs.NamingLemmas.{whole_named}
use Rattle.hls_manifest.proofs.laws.whole_objects_are_named.Goals as goal

pub returns : goal.returns
returns c = whole_named
