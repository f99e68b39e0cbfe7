use Rattle.std.proofs.Common.{refl}
use Rattle.library_examples.proofs.names.numbers_run.Goals as goal

pub returns : goal.returns
returns c = record { formats = refl; events = refl; statuses = refl }
