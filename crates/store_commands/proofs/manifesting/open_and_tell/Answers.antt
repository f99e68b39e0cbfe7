use Rattle.store_commands.proofs.ManifestLemmas.{disk_by, manifest_failed, manifest_told}
use Rattle.store_commands.proofs.manifesting.open_and_tell.Goals as goal

-- The store was opened.
pub returns-in-Ok-clause-disk : goal.returns-in-Ok-clause-disk
returns-in-Ok-clause-disk g c = disk_by _ c.in-Ok.store.kept.library _ _ _ c.tell_playlist-outcome.result (rw c.core.ensures at c.tell_playlist-outcome.ensures.ends) c.in-Ok.ensures.reads.calls.counted c.tell_playlist-outcome.ensures.disk

pub returns-in-Ok-clause-ends : goal.returns-in-Ok-clause-ends
returns-in-Ok-clause-ends g c =
    manifest_told _ _ _ _ c.in-Ok.ensures.reads c.kept_images_stand.ensures c.an_image_stands_for_one_state.ensures
    c.in-Ok.store.kept c.in-Ok.ensures.answer c.tell_playlist-outcome.result (rw c.core.ensures at c.tell_playlist-outcome.ensures.ends)

-- It couldn't be.
pub returns-in-Err-clause-ends : goal.returns-in-Err-clause-ends
returns-in-Err-clause-ends g c =
    rw c.opening_outcome.ensures (manifest_failed _ _ _ _ c.in-Err.ensures.reads c.in-Err.fault c.in-Err.ensures.answer)
