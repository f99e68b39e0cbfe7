use Rattle.store_commands.proofs.ManifestEndLemmas.{manifest_ends}
use Rattle.store_commands.proofs.manifesting.manifest.Goals as goal

-- What its end says is put together.
pub returns-clause-ends : goal.returns-clause-ends
returns-clause-ends g c = manifest_ends _ _ _ c.open_and_tell.result c.open_and_tell.ensures.disk c.open_and_tell.ensures.ends
