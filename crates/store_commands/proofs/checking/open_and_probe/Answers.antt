use Rattle.disk_trait.proofs.Theorems.{reads_twice}
use Rattle.store_commands.proofs.CheckLemmas.{check_failed, check_probed}
use Rattle.store_commands.proofs.checking.open_and_probe.Goals as goal

-- The store was opened.
pub returns-in-Ok-clause-disk : goal.returns-in-Ok-clause-disk
returns-in-Ok-clause-disk g c = (reads_twice _ _ _ _ c.in-Ok.ensures.reads c.probe_all.ensures.reads).calls.counted

pub returns-in-Ok-clause-ends : goal.returns-in-Ok-clause-ends
returns-in-Ok-clause-ends g c =
    check_probed _ _ _ c.in-Ok.ensures.reads _ c.probe_all.ensures.reads c.kept_images_stand.ensures c.an_image_stands_for_one_state.ensures
    c.in-Ok.store.kept c.in-Ok.ensures.answer c.probe_all.result c.probe_all.ensures.probed

-- It couldn't be.
pub returns-in-Err-clause-ends : goal.returns-in-Err-clause-ends
returns-in-Err-clause-ends g c =
    rw c.opening_outcome.ensures (check_failed _ _ _ c.in-Err.ensures.reads c.in-Err.fault c.in-Err.ensures.answer)
