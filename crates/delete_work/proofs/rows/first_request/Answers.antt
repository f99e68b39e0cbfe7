use Rattle.std.proofs.Common.{sym, ◌∙◌}
use Rattle.delete_work.proofs.Kept.{first_above, first_there}
use Rattle.delete_work.proofs.rows.first_request.Goals as goal

-- the request at the least key is the first
pub returns-in-Some : goal.returns-in-Some
returns-in-Some c = sym (first_there c.args.rows.now c.in-Some.row.now c.keys_rise.ensures c.keys_fit.ensures (sym c.in-Some.ensures))

-- and otherwise the first is above it
pub returns-in-None : goal.returns-in-None
returns-in-None c = c.first_behind.ensures ∙ first_above c.args.rows.now c.keys_fit.ensures (sym c.in-None.ensures)
