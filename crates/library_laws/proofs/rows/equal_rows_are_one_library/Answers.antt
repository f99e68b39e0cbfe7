use Rattle.library_laws.proofs.RowLibrary.{equal_rows_are_one}
use Rattle.library_laws.proofs.rows.equal_rows_are_one_library.Goals as goal

pub returns : goal.returns
returns c = equal_rows_are_one
