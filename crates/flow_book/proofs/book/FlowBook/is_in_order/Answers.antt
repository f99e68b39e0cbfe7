use Rattle.std.proofs.Common.{◌≡◌, true, subst}
use Rattle.media_rows.specs.Good.{is_catalog_in_order}
use Rattle.flow_book.proofs.Gathering.{catalog_in_order}
use Rattle.flow_book.proofs.book.FlowBook.is_in_order.Goals as goal

-- rows at the keys of their ids rise
pub returns : goal.returns
returns c =
    subst (λ catalog. is_catalog_in_order catalog ≡ true) c.self.view_is
    (catalog_in_order c.self.inside.sources c.self.inside.flows c.keys_rise.ensures c.keys_rise-2.ensures c.self.invariant.sources_keyed
    c.self.invariant.flows_keyed)
