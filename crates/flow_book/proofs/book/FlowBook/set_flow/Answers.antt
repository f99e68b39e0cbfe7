use Rattle.flow_book.proofs.Indexed.{set_kept}
use Rattle.flow_book.proofs.book.FlowBook.set_flow.Goals as goal

-- what the book keeps beside its rows is theirs after the change too
pub invariant_of-result : goal.invariant_of-result
invariant_of-result c =
    set_kept c.args.part.now c.args.now c.args.flow c.self.inside.sources c.in_ok-share.field-0 c.self.inside.flows c.in_ok-flows_after_set.field-0
    c.self.inside.by_source c.self.inside.collectors c.in_ok-share-2.field-0 c.in_ok-collectors_after_set.field-0
    c.keys_rise.ensures c.self.invariant c.in_ok-share.ensures c.in_ok-share-2.ensures c.in_ok-flows_after_set.ensures.keyed
    c.in_ok-flows_after_set.ensures.pairs (c.in_ok-collectors_after_set.ensures c.args.now)
