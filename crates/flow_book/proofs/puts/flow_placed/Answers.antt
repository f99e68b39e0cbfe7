use Rattle.media_rows.specs.declared.flow.FlowRow.{FlowRow}
use Rattle.id_index.proofs.Pairs.{if_ok}
use Rattle.flow_book.proofs.Changes.{placed_keyed, placed_values}
use Rattle.flow_book.proofs.puts.flow_placed.Goals as goal

-- the row stands at the key of its id
pub returns-clause-rows : goal.returns-clause-rows
returns-clause-rows c =
    if_ok c.with_row.result (λ next is. placed_values (λ (row : FlowRow). row.body.id) c.args.row c.args.flows.now next c.requires.keyed is) c.with_row.ensures

pub returns-clause-keyed : goal.returns-clause-keyed
returns-clause-keyed c =
    if_ok c.with_row.result (λ next is. placed_keyed (λ (row : FlowRow). row.body.id) c.args.row c.args.flows.now next c.requires.keyed is) c.with_row.ensures
