use Rattle.std.proofs.Common.{◌≡◌, ◌++◌, None, OnOk, false, ap, subst, ◌∙◌}
use Rattle.shared_tree.specs.Pairs.{values_of}
use Rattle.segment_index.specs.Answers.{met_page, page_of}
use Rattle.segment_book.proofs.Listing.{page_of_all}
use Rattle.segment_book.proofs.lists.append_rows.Goals as goal

-- a page of all that have a point on the line is all of them
pub returns : goal.returns
returns g c =
    let index = c.args.index.now in
    let count = c.in_ok-count.count in
    let got : values_of c.deref.result.now ≡ index =
    ap values_of c.deref.ensures.value ∙ c.range.ensures.page
    ∙ ap (λ l. values_of l ++ met_page index c.eternity-all.result (page_of None count false)) c.in_ok-rows.ensures.items
    ∙ ap (λ r. met_page index r (page_of None count false)) c.eternity-all.ensures.value
    ∙ page_of_all index count c.is_in_order.ensures.bounded c.in_ok-count.ensures in
    subst (λ l. OnOk c.append_copies.result (c.append_copies.new.list ≡ c.args.list.now ++ l)) got c.append_copies.ensures
