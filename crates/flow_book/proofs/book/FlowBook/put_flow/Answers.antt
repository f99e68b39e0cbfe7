use Rattle.std.proofs.Common.{sym, ◌∙◌}
use Rattle.flow_book.proofs.Indexed.{put_kept}
use Rattle.flow_book.proofs.book.FlowBook.put_flow.Goals as goal

-- what the book keeps beside its rows is theirs after the change too
pub invariant_of-result : goal.invariant_of-result
invariant_of-result c =
    put_kept c.args.body.now c.args.now c.self.inside.sources c.self.inside.flows c.self.inside.by_source c.self.inside.collectors
    c.in_ok-by_source_after_put.field-0 c.in_ok-collectors_with.field-0 c.in_ok-sources_after_put.field-0 c.in_ok-flows_after_put.field-0
    c.keys_rise.ensures c.self.invariant (sym c.in_ok-refusal.ensures ∙ c.in_default.is) c.in_ok-sources_after_put.ensures.keyed
    c.in_ok-flows_after_put.ensures.keyed c.in_ok-sources_after_put.ensures.pairs c.in_ok-flows_after_put.ensures.pairs c.in_ok-by_source_after_put.ensures
    (λ row same_id same_members. c.in_ok-collectors_with.ensures row same_id (same_members ∙ sym c.items-members.ensures))
