use Rattle.run_history.proofs.Pieces.{begun_is_greatest}
use Rattle.run_history.proofs.laws.begun_is_greatest.Goals as goal

pub returns : goal.returns
returns c = begun_is_greatest
