use Rattle.std.proofs.Common.{◌∙◌}
use Rattle.range_edit.proofs.Times.{spells_none}
use Rattle.range_edit.proofs.reading.read_at.Goals as goal

-- the text spells no timestamp
pub returns-clause-none : goal.returns-clause-none
returns-clause-none c = spells_none c.values_are_spelled.ensures.ts _ _ (c.ok.ensures.value ∙ c.read_ts.ensures.value)
