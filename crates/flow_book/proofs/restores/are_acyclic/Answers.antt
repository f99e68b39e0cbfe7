use Rattle.std.proofs.Common.{not, ap, ◌∙◌}
use Rattle.flow_book.proofs.Uncollected.{peeled_first, peeled_last}
use Rattle.flow_book.proofs.restores.are_acyclic.Goals as goal

-- at first all flows are left
pub all_peeled-requires : goal.all_peeled-requires
all_peeled-requires c = peeled_first c.args.rows.now c.args.kept.now.flows c.args.kept.now.by_source c.args.kept.now.collectors c.requires

-- at last there is one exactly where one reaches itself
pub returns : goal.returns
returns c =
    ap not c.has_flows.ensures
    ∙ peeled_last c.args.rows.now c.in_ok-left.left.flows c.in_ok-left.left.collectors c.circles_are_found.ensures c.in_ok-left.ensures
