use Rattle.std.proofs.Common.{arith, append_assoc}
use Rattle.std.proofs.lemmas.Grind.{common_steps}
use Rattle.catalog_rows.proofs.tags.placed_tag.Goals as goal

-- the tags below and the tag itself, and then the tags above
pub returns : goal.returns
returns c = grind (arith, common_steps, append_assoc)
