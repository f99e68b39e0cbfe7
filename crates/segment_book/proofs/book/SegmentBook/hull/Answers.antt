use Rattle.std.proofs.Common.{[], ap, sym, ◌∙◌}
use Rattle.std.specs.Prelude.{unwrap_or}
use Rattle.media_rows.specs.Segments.{hull_of_segments, segments_of}
use Rattle.segment_book.proofs.Views.{hull_is}
use Rattle.segment_book.proofs.book.SegmentBook.hull.Goals as goal

-- the hull of the segments at the flow's key
pub returns-in-Some : goal.returns-in-Some
returns-in-Some c =
    c.hull.ensures ∙ ap (λ o. hull_of_segments (unwrap_or o [])) c.in-Some.ensures
    ∙ sym (hull_is c.args.flow c.self.inside.flows c.self.inside.count c.keys_rise.ensures c.self.invariant)
    ∙ ap (λ rows. hull_of_segments (segments_of c.args.flow rows)) c.self.view_is

-- nothing stands there
pub returns-in-None : goal.returns-in-None
returns-in-None c =
    c.never.ensures.never ∙ ap (λ o. hull_of_segments (unwrap_or o [])) c.in-None.ensures
    ∙ sym (hull_is c.args.flow c.self.inside.flows c.self.inside.count c.keys_rise.ensures c.self.invariant)
    ∙ ap (λ rows. hull_of_segments (segments_of c.args.flow rows)) c.self.view_is
