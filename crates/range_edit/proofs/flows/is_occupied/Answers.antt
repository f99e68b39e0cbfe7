use Rattle.range_edit.proofs.FlowLemmas.{first_tells}
use Rattle.range_edit.proofs.flows.is_occupied.Goals as goal

-- the first read tells
pub returns : goal.returns
returns c =
    first_tells c.args.core.now.library c.args.flow c.args.range.now c.in_ok-read.read
    c.in_ok-read.ensures.read
