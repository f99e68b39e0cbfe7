use Rattle.std.proofs.Common.{◌∷◌, [], Contains, FitsSigned, rules, ap, subst, sym, ◌∙◌}
use mir.Syntax.{w128}
use Rattle.std.proofs.lemmas.Int.{to_z-of_z}
use Rattle.media_rows.specs.Segments.{without_segments}
use Rattle.library_laws.proofs.ListLemmas.{In-from_Contains}
use Rattle.segment_index.specs.Answers.{without_start}
use Rattle.segment_book.specs.Within.Flows.{segments_in_flows}
use Rattle.segment_book.proofs.Serials.{ends_told}
use Rattle.segment_book.proofs.Views.{book_without, view_without}
use Rattle.segment_book.proofs.book.SegmentBook.remove.Goals as goal

-- the segment's flow has the others
pub invariant_of-result : goal.invariant_of-result
invariant_of-result c =
    let flows = c.self.inside.flows in
    let row = c.args.row.now in
    let here = In-from_Contains (segments_in_flows flows) row (subst (λ rows. Contains rows row) (sym c.self.view_is) c.requires.there) in
    let fit : FitsSigned w128 c.first_point.result = search rules in
    let others = simp to_z-of_z at c.in_ok-index.ensures in
    let left_in = others ∙ ap (λ point. without_start point c.in_ok-index_of.field-0) c.first_point.ensures ∙ ap (without_start _) c.in_ok-index_of.ensures in
    book_without row flows c.self.inside.count c.keys_rise.ensures c.self.invariant here c.in_ok-index.index c.in_ok-with_index.field-0
    c.saturating_sub.result left_in c.is_in_order.ensures.starts (ends_told c.in_ok-index.index c.is_in_order.ensures.bounded) c.in_ok-with_index.ensures
    c.saturating_sub.ensures

pub returns : goal.returns
returns c =
    let flows = c.self.inside.flows in
    let row = c.args.row.now in
    let here = In-from_Contains (segments_in_flows flows) row (subst (λ rows. Contains rows row) (sym c.self.view_is) c.requires.there) in
    let fit : FitsSigned w128 c.first_point.result = search rules in
    let others = simp to_z-of_z at c.in_ok-index.ensures in
    let left_in = others ∙ ap (λ point. without_start point c.in_ok-index_of.field-0) c.first_point.ensures ∙ ap (without_start _) c.in_ok-index_of.ensures in
    view_without row flows c.self.inside.count c.keys_rise.ensures c.self.invariant here c.in_ok-index.index c.in_ok-with_index.field-0 left_in
    c.in_ok-with_index.ensures ∙ ap (without_segments (row ∷ [])) c.self.view_is
