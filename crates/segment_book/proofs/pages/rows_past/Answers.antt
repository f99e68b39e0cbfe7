use Rattle.std.proofs.Common.{◌++◌, filter, subst, sym, ap, ◌∙◌}
use Rattle.media_rows.specs.Lists.{items_past}
use Rattle.media_rows.specs.Segments.{first_point, names_object}
use Rattle.shared_tree.specs.Pairs.{values_of}
use Rattle.id_index.proofs.Pairs.{if_ok}
use Rattle.segment_index.specs.Answers.{met, met_page, page_of}
use Rattle.segment_book.specs.Within.Paging.{IsFront, front_len}
use Rattle.segment_book.proofs.Paging.{front_from}
use Rattle.segment_book.proofs.pages.rows_past.Goals as goal

-- as many as tell the page
pub returns : goal.returns
returns g c =
    let object = c.args.wanted.now.object in
    let limit = c.args.page.now.limit in
    let index = c.args.index.now in
    let range = c.args.wanted.now.range in
    let most = c.front_len-most.ensures ∙ ap (λ n. front_len n object limit) c.in_ok-count.ensures in
    let got = ap values_of c.deref.ensures.value ∙ c.range.ensures.page
    ∙ ap (λ l. values_of l ++ met_page index range
    (page_of c.args.page.now.after c.front_len-most.result c.args.page.now.reverse)) c.in_ok-rows.ensures.items in
    if_ok c.named.result
    (λ rows is. subst (λ l. IsFront limit l (items_past first_point c.args.page.now (filter (names_object object) (met index range)))) (sym is)
    (front_from object limit c.front_len-most.result c.args.page.now range index (values_of c.deref.result.now) most got)) c.named.ensures
