use Rattle.library_laws.proofs.FirstBytes.{first_bytes_stay}
use Rattle.library_laws.proofs.laws.first_bytes_stay.Goals as goal

pub returns : goal.returns
returns c = first_bytes_stay
