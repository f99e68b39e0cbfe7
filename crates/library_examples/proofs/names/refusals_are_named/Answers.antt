use Rattle.std.proofs.Common.{refl}
use Rattle.library_examples.proofs.names.refusals_are_named.Goals as goal

pub returns : goal.returns
returns c = record { early = refl; late = refl }
