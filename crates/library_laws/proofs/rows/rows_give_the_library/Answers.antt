use Rattle.library_laws.proofs.RowLibrary.{rows_give_the_library}
use Rattle.library_laws.proofs.rows.rows_give_the_library.Goals as goal

pub returns : goal.returns
returns c = rows_give_the_library
