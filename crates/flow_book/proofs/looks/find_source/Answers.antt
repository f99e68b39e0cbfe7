use Rattle.std.proofs.Common.{◌∙◌}
use Rattle.flow_book.proofs.Keys.{source_found}
use Rattle.flow_book.proofs.looks.find_source.Goals as goal

-- the first row of that id stands at the id's key
pub returns : goal.returns
returns c = c.row_at.ensures ∙ source_found c.args.id c.args.sources.now c.requires.keyed
