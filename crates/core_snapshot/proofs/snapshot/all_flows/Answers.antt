use Rattle.id_index.proofs.Pairs.{if_ok}
use Rattle.core_snapshot.proofs.Joining.{all_flows}
use Rattle.core_snapshot.proofs.snapshot.all_flows.Goals as goal

-- each of them passes
pub returns : goal.returns
returns c = if_ok c.list_flows.result (λ list is. all_flows c.new.result list c.args.catalog.now.flows c.new.ensures is) c.list_flows.ensures.exact
