use Rattle.library_laws.proofs.PageLemmas.{range_answer_in_order}
use Rattle.library_laws.proofs.laws.range_answer_is_in_order.Goals as goal

pub returns : goal.returns
returns c = range_answer_in_order
