use Rattle.std.proofs.Common.{refl}
use Rattle.library_examples.proofs.names.names_are_spelled.Goals as goal

pub returns : goal.returns
returns c = record { formats = refl; events = refl; statuses = refl; hook_started = refl; hook_failed = refl }
