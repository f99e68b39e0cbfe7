use Rattle.store_opening.proofs.Kept.{kept_stands}
use Rattle.store_opening.proofs.laws.kept_images_stand.Goals as goal

pub returns : goal.returns
returns c = kept_stands
