use Rattle.std.proofs.Common.{ap, subst, ◌∙◌}
use Rattle.media_rows.specs.Lists.{in_order}
use Rattle.media_rows.specs.Segments.{segments_of, starts_before}
use Rattle.id_index.proofs.Pairs.{if_ok}
use Rattle.media_book.specs.Media.{AreSome, without_rows}
use Rattle.media_book.proofs.Covering.{flow_goes, flow_some}
use Rattle.media_book.proofs.book.MediaBook.remove_flow.Goals as goal

-- each of them is there, once
pub remove-requires : goal.remove-requires
remove-requires c = record {
  some = subst (λ m. AreSome c.items.result.now m.segments) (ap (λ m. m.media) c.self.view_is)
      (flow_some c.args.flow c.items.result.now c.self.inside.segments c.self.invariant.rising (c.items.ensures ∙ c.in_ok-rows.ensures));
}

-- in which order they go makes no difference
pub returns : goal.returns
returns c =
    let media = c.args.self.now.media in
    if_ok c.remove.result (λ next is. is
    ∙ ap (λ l. without_rows l c.args.now media)
    (c.items.ensures ∙ c.in_ok-rows.ensures ∙ ap (λ m. in_order starts_before (segments_of c.args.flow m.segments)) (ap (λ m. m.media) c.self.view_is))
    ∙ flow_goes c.args.flow c.args.now media) c.remove.ensures
