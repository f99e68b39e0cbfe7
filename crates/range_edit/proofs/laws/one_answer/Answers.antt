use Rattle.range_edit.proofs.Settled.{one_answer}
use Rattle.range_edit.proofs.laws.one_answer.Goals as goal

-- records and times spell one row
pub returns : goal.returns
returns c = one_answer c.values_are_spelled.ensures.ts c.values_are_spelled.ensures.range
