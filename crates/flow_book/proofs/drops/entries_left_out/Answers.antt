use Rattle.std.proofs.Common.{ap, ◌∙◌}
use Rattle.shared_tree.specs.Pairs.{values_of}
use Rattle.id_index.proofs.Pairs.{if_ok}
use Rattle.flow_book.proofs.DropSteps.{entries_gone}
use Rattle.flow_book.proofs.drops.entries_left_out.Goals as goal

-- each row that has entries of the flow is replaced by one without
pub returns : goal.returns
returns c =
    let shown = ap values_of c.deref.ensures.value ∙ c.in_ok-rows.ensures in
    if_ok c.entries_cleared.result (λ next is. entries_gone c.args.id (values_of c.args.collecting.now) (values_of c.deref.result.now) c.args.flows.now next
    c.keys_rise.ensures c.requires.keyed c.requires.ids shown is) c.entries_cleared.ensures
