use Rattle.std.proofs.Common.{◌≡◌, true, ap, subst, sym, ◌∙◌}
use Rattle.media_rows.specs.declared.flow.FlowRow.{FlowRow}
use Rattle.media_rows.specs.Catalog.{flow_before}
use Rattle.media_rows.specs.Lists.{rises}
use Rattle.shared_tree.specs.Pairs.{values, values_of}
use Rattle.flow_book.specs.Listing.{is_flow_listed}
use Rattle.flow_book.proofs.CatalogOrder.{listed_rise}
use Rattle.id_index.proofs.Pairs.{if_ok}
use Rattle.flow_book.proofs.Gathering.{values_rise}
use Rattle.flow_book.proofs.book.FlowBook.list_flows.Goals as goal

-- what a filter leaves of rising rows rises
pub returns-clause-rising : goal.returns-clause-rising
returns-clause-rising c =
    let kept = c.self.inside.flows in
    let shown = ap values_of c.deref.ensures.value ∙ c.in_ok-rows.ensures in
    let rising : rises flow_before (values kept) ≡ true = values_rise (λ (row : FlowRow). row.body.id) kept c.keys_rise.ensures c.self.invariant.flows_keyed in
    if_ok c.flows_listed.result (λ list is. listed_rise flow_before (is_flow_listed c.args.wanted.now c.args.after) (values_of c.deref.result.now) list is
    (subst (λ l. rises flow_before l ≡ true) (sym shown) rising)) c.flows_listed.ensures
