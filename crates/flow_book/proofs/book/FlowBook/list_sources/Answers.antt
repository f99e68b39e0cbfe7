use Rattle.std.proofs.Common.{◌≡◌, true, ap, subst, sym, ◌∙◌}
use Rattle.media_rows.specs.declared.source.SourceRow.{SourceRow}
use Rattle.media_rows.specs.Catalog.{source_before}
use Rattle.media_rows.specs.Lists.{rises}
use Rattle.shared_tree.specs.Pairs.{values, values_of}
use Rattle.flow_book.specs.Listing.{is_source_listed}
use Rattle.flow_book.proofs.CatalogOrder.{listed_rise}
use Rattle.id_index.proofs.Pairs.{if_ok}
use Rattle.flow_book.proofs.Gathering.{values_rise}
use Rattle.flow_book.proofs.book.FlowBook.list_sources.Goals as goal

-- what a filter leaves of rising rows rises
pub returns-clause-rising : goal.returns-clause-rising
returns-clause-rising c =
    let kept = c.self.inside.sources in
    let shown = ap values_of c.deref.ensures.value ∙ c.in_ok-rows.ensures in
    let rising : rises source_before (values kept) ≡ true = values_rise (λ (row : SourceRow). row.id) kept c.keys_rise.ensures c.self.invariant.sources_keyed in
    if_ok c.sources_listed.result (λ list is. listed_rise source_before (is_source_listed c.args.wanted.now c.args.after) (values_of c.deref.result.now) list is
    (subst (λ l. rises source_before l ≡ true) (sym shown) rising)) c.sources_listed.ensures
