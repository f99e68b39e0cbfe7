use Rattle.std.proofs.Common.{refl}
use Rattle.store_opening.specs.Opening as opening
use Rattle.store_commands.proofs.WorkloadLemmas.{kept_found}
use Rattle.store_commands.proofs.generating.kept_in.Goals as goal

-- What was opened is the library of the state for which the file stands.
pub returns-in-Ok : goal.returns-in-Ok
returns-in-Ok c =
    kept_found c.kept_images_stand.ensures c.an_image_stands_for_one_state.ensures _ (opening.view_of_opened c.in-Ok.opened)
    (c.in-Ok.ensures.answer refl) c.kept_by.result c.kept_by.ensures
