use Rattle.library_laws.proofs.SoundLemmas.{applies_is_tested}
use Rattle.library_laws.proofs.changes.applies_is_tested.Goals as goal

pub returns : goal.returns
returns c = applies_is_tested
