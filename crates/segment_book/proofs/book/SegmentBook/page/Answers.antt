use Rattle.std.proofs.Common.{filter, sym, ap, ◌∙◌}
use Rattle.media_rows.specs.Segments.{names_object, overlapping}
use Rattle.media_rows.specs.Views.{shown_segments}
use Rattle.shared_tree.specs.Pairs.{values_of}
use Rattle.id_index.proofs.Pairs.{if_ok}
use Rattle.segment_index.specs.Answers.{met}
use Rattle.segment_book.specs.Within.Paging.{shown_rows}
use Rattle.segment_book.proofs.Paging.{asked_is, front_shown}
use Rattle.segment_book.proofs.book.SegmentBook.page.Goals as goal

-- the first rows that lie past the key tell the page
pub returns : goal.returns
returns c =
    let object = c.args.wanted.now.object in
    let range = c.args.wanted.now.range in
    let asked = ap (λ rows. filter (names_object object) (met rows range)) c.in_ok-index.ensures
    ∙ sym (asked_is c.args.flow range object c.self.inside.flows c.self.inside.count c.keys_rise.ensures c.self.invariant)
    ∙ ap (λ all. overlapping all c.args.flow range object) c.self.view_is in
    if_ok c.shown.result
    (λ view is. is ∙ ap (λ rows. shown_rows c.args.page.now.limit (values_of rows)) c.deref.ensures.value
    ∙ front_shown c.args.page.now (values_of c.in_ok-rows.rows.items) (filter (names_object object) (met c.in_ok-index.index range)) c.in_ok-rows.ensures
    ∙ ap (shown_segments c.args.page.now) asked) c.shown.ensures
