use Rattle.library_laws.proofs.PageLemmas.{range_answer_on_points}
use Rattle.library_laws.proofs.laws.range_answer_is_on_points.Goals as goal

pub returns : goal.returns
returns c = range_answer_on_points
