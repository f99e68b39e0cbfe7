use Rattle.core_restore.proofs.Laid.{rows_pass, passing_rows}
use Rattle.core_restore.proofs.laws.rows_of_libraries_pass.Goals as goal

pub returns-clause-passing : goal.returns-clause-passing
returns-clause-passing c = passing_rows c.kinds_make_the_library.ensures

pub returns-clause-all : goal.returns-clause-all
returns-clause-all c = rows_pass c.rows_give_the_library.ensures c.rows_rise.ensures
