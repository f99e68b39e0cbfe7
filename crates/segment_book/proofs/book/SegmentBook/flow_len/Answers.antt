use Rattle.std.proofs.Common.{◌^◌, ◌-◌, [], length, min, ap, sym, ◌∙◌}
use Rattle.std.specs.Prelude.{unwrap_or}
use Rattle.media_rows.specs.Segments.{segments_of}
use Rattle.segment_book.proofs.Views.{flow_length}
use Rattle.segment_book.proofs.book.SegmentBook.flow_len.Goals as goal

-- those that stand at the flow's key
pub returns-in-Some : goal.returns-in-Some
returns-in-Some c =
    c.len.ensures ∙ ap (λ o. min (length (unwrap_or o [])) (2 ^ 64 - 1)) c.in-Some.ensures
    ∙ ap (λ n. min n (2 ^ 64 - 1)) (sym (flow_length c.args.flow c.self.inside.flows c.self.inside.count c.keys_rise.ensures c.self.invariant))
    ∙ ap (λ rows. min (length (segments_of c.args.flow rows)) (2 ^ 64 - 1)) c.self.view_is

pub returns-in-None : goal.returns-in-None
returns-in-None c =
    ap (λ o. min (length (unwrap_or o [])) (2 ^ 64 - 1)) c.in-None.ensures
    ∙ ap (λ n. min n (2 ^ 64 - 1)) (sym (flow_length c.args.flow c.self.inside.flows c.self.inside.count c.keys_rise.ensures c.self.invariant))
    ∙ ap (λ rows. min (length (segments_of c.args.flow rows)) (2 ^ 64 - 1)) c.self.view_is
