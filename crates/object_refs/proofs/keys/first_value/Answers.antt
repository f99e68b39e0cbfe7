use Rattle.std.proofs.Common.{sym, ◌∙◌}
use Rattle.object_refs.proofs.Looks.{first_above, first_there}
use Rattle.object_refs.proofs.keys.first_value.Goals as goal

-- the value at the least number is the first
pub returns-in-Some : goal.returns-in-Some
returns-in-Some g c = sym (first_there c.args.rows.now c.in-Some.value.now c.keys_rise.ensures c.requires.least (sym c.in-Some.ensures))

-- and otherwise the first is above it
pub returns-in-None : goal.returns-in-None
returns-in-None g c = c.first_looked_up.ensures ∙ first_above c.args.rows.now c.requires.least (sym c.in-None.ensures)
