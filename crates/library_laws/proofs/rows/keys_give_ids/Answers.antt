use Rattle.library_laws.proofs.RowLibrary.{keys_give_ids}
use Rattle.library_laws.proofs.rows.keys_give_ids.Goals as goal

pub returns : goal.returns
returns c = keys_give_ids
