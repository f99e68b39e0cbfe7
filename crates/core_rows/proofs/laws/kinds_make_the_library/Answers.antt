use Rattle.core_rows.proofs.Parting.{kinds_make_the_library}
use Rattle.core_rows.proofs.laws.kinds_make_the_library.Goals as goal

pub returns : goal.returns
returns c = kinds_make_the_library
