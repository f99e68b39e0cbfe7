use Rattle.std.proofs.Common.{[], ◌∷◌, if◌then◌else◌, sym, ap, subst, ◌∙◌}
use Rattle.media_rows.specs.Catalog.{after_drop, no_flow_refusal}
use Rattle.media_rows.specs.Collections.{member_ids}
use Rattle.media_rows.specs.Views.{id_key}
use Rattle.shared_tree.specs.Pairs.{without_key}
use Rattle.id_index.specs.Index.{Unlinks, has_pairs, ids_at}
use Rattle.flow_book.proofs.Indexed.{drop_catalog, drop_kept, left_collectors, not_refused}
use Rattle.flow_book.proofs.book.FlowBook.drop_flow.Goals as goal

-- the flows but this one are those that the index is of
pub flows_after_drop-requires-clause-index : goal.flows_after_drop-requires-clause-index
flows_after_drop-requires-clause-index c =
    let names = c.deref.ensures.value ∙ c.in_ok-collected.ensures ∙ ap member_ids c.items.ensures in
    let gone : Unlinks (member_ids c.in-Some.row.now.body.members) c.args.flow c.self.inside.collectors c.in_ok-collectors.collectors =
    subst (λ l. Unlinks l c.args.flow c.self.inside.collectors c.in_ok-collectors.collectors) names c.in_ok-collectors.ensures in
    left_collectors c.args.flow c.in-Some.row.now c.self.inside.sources c.self.inside.sources c.self.inside.flows c.self.inside.flows c.self.inside.by_source
    c.self.inside.collectors c.self.inside.by_source c.in_ok-collectors.collectors c.self.inside.collectors
    c.keys_rise.ensures c.self.invariant c.in-Some.ensures gone

-- what the book keeps beside its rows is theirs after the change too
pub invariant_of-result : goal.invariant_of-result
invariant_of-result c =
    let names = c.deref.ensures.value ∙ c.in_ok-collected.ensures ∙ ap member_ids c.items.ensures in
    let gone_col : Unlinks (member_ids c.in-Some.row.now.body.members) c.args.flow c.self.inside.collectors c.in_ok-collectors.collectors =
    subst (λ l. Unlinks l c.args.flow c.self.inside.collectors c.in_ok-collectors.collectors) names c.in_ok-collectors.ensures in
    let same = c.by_source.view_is in
    let gone : Unlinks (c.in-Some.row.now.body.source ∷ []) c.args.flow c.self.inside.by_source c.by_source.inside.linked =
    subst (Unlinks (c.in-Some.row.now.body.source ∷ []) c.args.flow c.self.inside.by_source) (sym same) c.in_ok-by_source.ensures in
    let dropped = c.in_ok-sources_after_drop.ensures ∙ ap (λ b. if has_pairs (ids_at c.in-Some.row.now.body.source b) then c.self.inside.sources else
    without_key (id_key c.in-Some.row.now.body.source) c.self.inside.sources) (sym same) in
    drop_kept c.args.flow c.in-Some.row.now c.self.inside.sources c.in_ok-sources_after_drop.field-0 c.self.inside.flows c.in_ok-flows_after_drop.field-0
    c.self.inside.by_source c.self.inside.collectors c.by_source.inside.linked c.in_ok-collectors.collectors c.in_ok-forget.field-0
    c.keys_rise-2.ensures c.keys_rise.ensures c.self.invariant c.in-Some.ensures gone gone_col c.in_ok-forget.ensures dropped c.in_ok-flows_after_drop.ensures

pub returns : goal.returns
returns c = (
  ap (λ catalog. no_flow_refusal catalog c.args.flow) (sym c.self.view_is) ∙ not_refused c.args.flow c.in-Some.row.now c.self.inside.sources
      c.self.inside.sources c.self.inside.flows c.self.inside.flows c.self.inside.by_source c.self.inside.collectors c.self.inside.by_source
      c.self.inside.collectors c.self.inside.collectors c.in-Some.ensures,
  drop_catalog c.args.flow c.in-Some.row.now c.self.inside.sources c.in_ok-sources_after_drop.field-0 c.self.inside.flows c.in_ok-flows_after_drop.field-0
      c.self.inside.by_source c.self.inside.collectors c.in_ok-by_source.by_source c.in_ok-collectors.collectors c.in_ok-forget.field-0
      c.keys_rise-2.ensures c.keys_rise.ensures c.self.invariant c.in-Some.ensures c.in_ok-by_source.ensures c.in_ok-sources_after_drop.ensures
      c.in_ok-flows_after_drop.ensures ∙ ap (after_drop c.args.flow) c.self.view_is,
)
