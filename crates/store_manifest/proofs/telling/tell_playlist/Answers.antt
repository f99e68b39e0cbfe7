use Rattle.store_manifest.proofs.TellLemmas.{ends_by}
use Rattle.store_manifest.proofs.telling.tell_playlist.Goals as goal

-- A peer was waited for, and told the text as far as the calls held.
pub returns-in-Ok-clause-ends : goal.returns-in-Ok-clause-ends
returns-in-Ok-clause-ends g c = ends_by _ c.args.core.now.library _ _ c.tell.result c.in-Ok.text c.in-Ok.objects c.in-Ok.ensures.playlist (rw c.bytes.ensures at c.tell.ensures)
