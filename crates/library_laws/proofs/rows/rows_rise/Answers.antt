use Rattle.library_laws.proofs.RowOrder.{rows_rise}
use Rattle.library_laws.proofs.rows.rows_rise.Goals as goal

pub returns : goal.returns
returns c = rows_rise
