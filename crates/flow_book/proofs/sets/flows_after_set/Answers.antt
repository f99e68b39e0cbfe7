use Rattle.std.proofs.Common.{sym, ap, ◌∙◌}
use Rattle.media_rows.specs.Views.{id_key}
use Rattle.shared_tree.specs.Pairs.{with_pair}
use Rattle.id_index.specs.Index.{changed_row}
use Rattle.flow_book.proofs.Keys.{flow_found}
use Rattle.media_rows.specs.declared.flow.FlowRow.{FlowRow}
use Rattle.media_rows.specs.Catalog.{set_row}
use Rattle.id_index.proofs.Pairs.{if_ok}
use Rattle.flow_book.proofs.Changes.{changed_keyed, changed_values, unchanged_values}
use Rattle.flow_book.proofs.sets.flows_after_set.Goals as goal
use Rattle.library_laws.proofs.SettingsKept.{with_id}

-- no row has the id, and all stay
pub returns-in-None-clause-rows : goal.returns-in-None-clause-rows
returns-in-None-clause-rows c =
    if_ok c.share.result (λ next is. unchanged_values (λ (row : FlowRow). row.body.id) c.args.id (set_row c.args.part.now c.args.now) c.args.flows.now next
    c.in-None.ensures is) c.share.ensures

-- the changed row stands in place of the old one
pub returns-in_ok-set_row-in-Some-clause-rows : goal.returns-in_ok-set_row-in-Some-clause-rows
returns-in_ok-set_row-in-Some-clause-rows c =
    if_ok c.with_row.result (λ next is. changed_values (λ (row : FlowRow). row.body.id) c.args.id (set_row c.args.part.now c.args.now) c.in-Some.row.now
    c.in_ok-set_row-in-Some.field-0 c.args.flows.now next c.keys_rise.ensures c.requires.keyed c.in-Some.ensures c.in_ok-set_row-in-Some.ensures is)
    c.with_row.ensures

pub returns-in_ok-set_row-in-Some-clause-keyed : goal.returns-in_ok-set_row-in-Some-clause-keyed
returns-in_ok-set_row-in-Some-clause-keyed c =
    if_ok c.with_row.result (λ next is. changed_keyed (λ (row : FlowRow). row.body.id) c.args.id (set_row c.args.part.now c.args.now) c.in-Some.row.now
    c.in_ok-set_row-in-Some.field-0 c.args.flows.now next (λ row. with_id c.args.part.now row.body) c.requires.keyed c.in-Some.ensures
    c.in_ok-set_row-in-Some.ensures is) c.with_row.ensures

pub returns-in-None-clause-pairs : goal.returns-in-None-clause-pairs
returns-in-None-clause-pairs c =
    if_ok c.share.result (λ next is. is ∙ ap (λ found. changed_row (id_key c.args.id) (set_row c.args.part.now c.args.now) found c.args.flows.now)
    (c.in-None.ensures ∙ sym (flow_found c.args.id c.args.flows.now c.requires.keyed))) c.share.ensures

pub returns-in_ok-set_row-in-Some-clause-pairs : goal.returns-in_ok-set_row-in-Some-clause-pairs
returns-in_ok-set_row-in-Some-clause-pairs c =
    if_ok c.with_row.result (λ next is. is ∙ ap (λ row. with_pair (id_key c.args.id, row) c.args.flows.now) c.in_ok-set_row-in-Some.ensures ∙ ap
    (λ found. changed_row (id_key c.args.id) (set_row c.args.part.now c.args.now) found c.args.flows.now)
    (c.in-Some.ensures ∙ sym (flow_found c.args.id c.args.flows.now c.requires.keyed))) c.with_row.ensures
