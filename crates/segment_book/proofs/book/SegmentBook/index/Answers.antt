use Rattle.std.proofs.Common.{ap, sym, ◌∙◌}
use Rattle.media_rows.specs.Lists.{in_order}
use Rattle.media_rows.specs.Segments.{segments_of, starts_before}
use Rattle.id_index.proofs.Pairs.{if_ok}
use Rattle.segment_book.proofs.Views.{flow_by_start}
use Rattle.segment_book.proofs.book.SegmentBook.index.Goals as goal

-- they stand at the flow's key
pub returns : goal.returns
returns c =
    if_ok c.index_of.result
    (λ index is. is ∙ sym (flow_by_start c.args.flow c.self.inside.flows c.self.inside.count c.keys_rise.ensures c.self.invariant)
    ∙ ap (λ rows. in_order starts_before (segments_of c.args.flow rows)) c.self.view_is) c.index_of.ensures
