use Rattle.library_laws.proofs.SoundLemmas.{applied_is_sound}
use Rattle.library_laws.proofs.changes.applied_is_sound.Goals as goal

pub returns : goal.returns
returns c = applied_is_sound
