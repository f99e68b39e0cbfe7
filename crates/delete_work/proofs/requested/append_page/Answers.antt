use Rattle.std.proofs.Common.{◌≡◌, ◌-◌, ◌++◌, suc, ap, arith, filter, option_map, take, ◌∙◌}
use Rattle.std.specs.List.{slice_get}
use Rattle.media_rows.specs.Segments.{first_point}
use Rattle.shared_tree.specs.Pairs.{values_of}
use Rattle.delete_work.specs.Within.Seeking.{ahead, is_wanted_by}
use Rattle.delete_work.proofs.Paging.{page_found, page_leaves_fewer}
use Rattle.delete_work.proofs.requested.append_page.Goals as goal

-- what a page has and what is left behind it are all
pub returns-clause-rows : goal.returns-clause-rows
returns-clause-rows g c =
    let whole : c.args.limit ≡ suc (c.args.limit - 1) = omega (arith, c.requires) in
    page_found (c.args.limit - 1) c.args.index.now (values_of c.in_ok-page.page.items) c.args.request.now c.args.after.now c.next_start.result
    c.is_in_order.ensures.starts
    (c.in_ok-page.ensures ∙ ap (λ n. take n (ahead c.args.index.now c.args.request.now c.args.after.now)) whole)
    (c.next_start.ensures ∙ ap (λ l. option_map first_point (slice_get (values_of l) (c.args.limit - 1))) c.deref-2.ensures.value)
    (values_of c.args.list.now.items) (values_of c.append_wanted.new.list.items)
    (c.in_ok-append_wanted.ensures ∙ ap (λ l. values_of c.args.list.now.items ++ filter (is_wanted_by c.args.request.now) (values_of l)) c.deref.ensures.value)

pub returns-clause-fewer : goal.returns-clause-fewer
returns-clause-fewer g c =
    let whole : c.args.limit ≡ suc (c.args.limit - 1) = omega (arith, c.requires) in
    page_leaves_fewer (c.args.limit - 1) c.args.index.now (values_of c.in_ok-page.page.items) c.args.request.now c.args.after.now c.next_start.result
    c.is_in_order.ensures.starts
    (c.in_ok-page.ensures ∙ ap (λ n. take n (ahead c.args.index.now c.args.request.now c.args.after.now)) whole)
    (c.next_start.ensures ∙ ap (λ l. option_map first_point (slice_get (values_of l) (c.args.limit - 1))) c.deref-2.ensures.value)
