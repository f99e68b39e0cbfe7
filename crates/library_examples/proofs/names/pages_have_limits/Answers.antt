use Rattle.std.proofs.Common.{refl}
use Rattle.library_examples.proofs.names.pages_have_limits.Goals as goal

pub returns : goal.returns
returns c = record { none = refl; one = refl }
