use Rattle.std.specs.Prelude.{◌++◌}
use Rattle.std.proofs.lemmas.Result.{on_ok_weaker}
use Rattle.json_replies.proofs.Appending.{enclosed, joined}
use Rattle.json_replies.specs.Rows.{flow_first, flow_last, flow_middle, flow_value}
use Rattle.json_replies.proofs.flows.FlowsShowsFlowShown.show.Goals as goal

pub returns : goal.returns
unfolding flow_value
returns c =
    let flow = c.args.flow.now in
    let end = joined (flow_middle flow.row) (flow_last flow) c.in_ok-show_middle.ensures c.in_ok-show_last.ensures in
    on_ok_weaker c.end_object.result
    (enclosed c.in_ok-begin_object.ensures (joined (flow_first flow.row) (flow_middle flow.row ++ flow_last flow) c.in_ok-show_first.ensures end))
    c.end_object.ensures
