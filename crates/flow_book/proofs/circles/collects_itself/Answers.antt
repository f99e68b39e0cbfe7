use Rattle.std.proofs.Common.{◌∙◌}
use Rattle.shared_tree.specs.Pairs.{values}
use Rattle.flow_book.proofs.Ways.{itself_is}
use Rattle.flow_book.proofs.circles.collects_itself.Goals as goal

-- a way leads from one of the entries
pub returns : goal.returns
returns c =
    c.any_leads.ensures
    ∙ itself_is c.args.flows.now c.in_ok-apart.apart c.args.id c.args.members.now
    (c.circles_are_found.ensures (values c.args.flows.now) c.args.id c.args.members.now) c.in_ok-apart.ensures
