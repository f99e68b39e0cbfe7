use Rattle.library_laws.proofs.PlaceLemmas.{places_are_least}
use Rattle.library_laws.proofs.laws.places_are_least.Goals as goal

pub returns : goal.returns
returns c = places_are_least
