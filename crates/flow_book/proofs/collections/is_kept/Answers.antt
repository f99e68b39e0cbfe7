use Rattle.std.proofs.Common.{ap, is_some, ◌∙◌}
use Rattle.shared_tree.specs.Pairs.{values}
use Rattle.flow_book.proofs.Kept.{found_kept}
use Rattle.flow_book.proofs.collections.is_kept.Goals as goal

-- a flow is kept where it is found
pub returns-in-Some : goal.returns-in-Some
returns-in-Some c = ap is_some c.in-Some.ensures ∙ found_kept c.args.id (values c.args.flows.now)

pub returns-in-None : goal.returns-in-None
returns-in-None c = ap is_some c.in-None.ensures ∙ found_kept c.args.id (values c.args.flows.now)
