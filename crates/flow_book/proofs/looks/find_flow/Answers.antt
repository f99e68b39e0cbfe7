use Rattle.std.proofs.Common.{◌∙◌}
use Rattle.flow_book.proofs.Keys.{flow_found}
use Rattle.flow_book.proofs.looks.find_flow.Goals as goal

-- the first row of that id stands at the id's key
pub returns : goal.returns
returns c = c.row_at.ensures ∙ flow_found c.args.id c.args.flows.now c.requires.keyed
