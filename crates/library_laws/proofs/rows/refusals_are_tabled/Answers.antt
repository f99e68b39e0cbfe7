use Rattle.std.proofs.Common.{refl}
use Rattle.library_laws.proofs.rows.refusals_are_tabled.Goals as goal

pub returns : goal.returns
returns c = record { numbers = refl; statuses = refl; names = refl }
