use Rattle.std.proofs.Common.{◌++◌, ap, sym, ◌∙◌}
use Rattle.media_rows.specs.Lists.{in_order}
use Rattle.media_rows.specs.Snapshot.{segment_row_before}
use Rattle.shared_tree.specs.Pairs.{values_of}
use Rattle.segment_book.specs.Within.Flows.{rows_joined}
use Rattle.segment_book.proofs.Listing.{joined_is, listed_is}
use Rattle.segment_book.proofs.book.SegmentBook.list.Goals as goal

-- flow by flow they stand in the order of a snapshot
pub returns : goal.returns
returns c =
    let flows = c.self.inside.flows in
    c.in_ok-append_flows.ensures ∙ ap (λ l. l ++ rows_joined (values_of c.deref.result.now)) c.new-list.ensures
    ∙ ap (λ l. rows_joined (values_of l)) c.deref.ensures.value ∙ ap rows_joined c.in_ok-flows.ensures ∙ joined_is flows
    ∙ sym (listed_is flows c.self.inside.count c.keys_rise.ensures c.self.invariant) ∙ ap (in_order segment_row_before) c.self.view_is
